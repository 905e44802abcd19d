-- What a token is that ended: empty, then no range where its number is bad, for that number's fault, then one number, then two where the first is not larger, else no range.
use mathlib.Core.Path.{sym, ◌∙◌}
use borrow.Author.Tests.{le-leb, lt-leb}
use Rattle.text.proofs.Steps.{token-at, token_bad, token-empty, chosen, other}
use Rattle.text.proofs.Steps.{left_none, left_some}
use Rattle.text.specs.Kernels.{part_of}
use Rattle.storage.proofs.Checks.{raised}
use Rattle.text.proofs.token_of.Goals as goal

pub returns-then-empty : goal.returns-then-empty
returns-then-empty c = sym (token-empty _ (part_of c.args.p) (sym c.empty.ensures ∙ c.if-empty.true))

pub returns-then-p-eq0 : goal.returns-then-p-eq0
returns-then-p-eq0 c =
    sym (token-at _ (part_of c.args.p)
    (sym c.empty.ensures ∙ c.if-empty.false) (left_none _ _ c.if-p-eq0.true)
    (sym c.value_of.ensures ∙ c.in_ok-b.was))

pub returns-in_err-b : goal.returns-in_err-b
returns-in_err-b c =
    raised c.from_residual.ensures
    ∙ sym (token_bad _ (part_of c.args.p) _
    (sym c.empty.ensures ∙ c.if-empty.false) (sym c.value_of.ensures ∙ c.in_err-b.was))

pub returns-then-a-b : goal.returns-then-a-b
returns-then-a-b c =
    sym (token-at _ (part_of c.args.p)
    (sym c.empty.ensures ∙ c.if-empty.false)
    (left_some _ _ c.if-p-eq0.false) (sym c.value_of.ensures ∙ c.in_ok-b.was)
    ∙ chosen _ _ (le-leb _ _ c.if-a-b.true))

pub returns-else-a-b : goal.returns-else-a-b
returns-else-a-b c =
    sym (token-at _ (part_of c.args.p)
    (sym c.empty.ensures ∙ c.if-empty.false)
    (left_some _ _ c.if-p-eq0.false) (sym c.value_of.ensures ∙ c.in_ok-b.was)
    ∙ other _ _ (lt-leb _ _ c.if-a-b.false))
