-- The guard, then 15, then 8, then 7 or 16, then 6, then the set of the list: a walk over no words measures, and one over zeroed words sets its ranges.
use mathlib.Core.Path.{sym, ◌∙◌}
use Rattle.storage.proofs.Checks.{passed}
use Rattle.storage.proofs.Stores.{changes_raised}
use Rattle.text.proofs.Taken.{list-refused_15, list-refused_8, list-refused_as, list-refused_6, list_done}
use Rattle.text.proofs.from_list.Goals as goal

pub returns-in_err-check : goal.returns-in_err-check
returns-in_err-check c = changes_raised _ _ _ c.from_residual.ensures (sym c.in_err-check.was ∙ c.check.ensures)

pub returns-then-not-is_allowed : goal.returns-then-not-is_allowed
returns-then-not-is_allowed c = list-refused_15 _ _ _ _ (passed _ _ (sym c.in_ok-check.was ∙ c.check.ensures)) (sym c.is_allowed.ensures ∙ c.if-not-is_allowed.true)

pub returns-then-not-is_plain : goal.returns-then-not-is_plain
returns-then-not-is_plain c =
    list-refused_8 _ _ _ _ (passed _ _ (sym c.in_ok-check.was ∙ c.check.ensures)) (sym c.is_allowed.ensures ∙ c.if-not-is_allowed.false) (sym c.is_plain.ensures ∙ c.if-not-is_plain.true)

pub returns-in-Err : goal.returns-in-Err
returns-in-Err c =
    list-refused_as _ _ _ _ (passed _ _ (sym c.in_ok-check.was ∙ c.check.ensures))
    (sym c.is_allowed.ensures ∙ c.if-not-is_allowed.false) (sym c.is_plain.ensures ∙ c.if-not-is_plain.false) _ _
    c.walk.ensures _ c.in-Err.is _ c.into.ensures

pub returns-then-count-words : goal.returns-then-count-words
returns-then-count-words c =
    list-refused_6 _ _ _ _ (passed _ _ (sym c.in_ok-check.was ∙ c.check.ensures))
    (sym c.is_allowed.ensures ∙ c.if-not-is_allowed.false) (sym c.is_plain.ensures ∙ c.if-not-is_plain.false) _ _
    c.walk.ensures _
    c.in-Ok.is c.if-count-words.true

pub returns : goal.returns
returns c =
    list_done _ _ _ _ (passed _ _ (sym c.in_ok-check.was ∙ c.check.ensures))
    (sym c.is_allowed.ensures ∙ c.if-not-is_allowed.false)
    (sym c.is_plain.ensures ∙ c.if-not-is_plain.false) _ _
    c.walk.ensures _
    c.in-Ok.is
    c.if-count-words.false _ c.max.ensures _
    c.zero_words.ensures _ _ c.walk-2.ensures
