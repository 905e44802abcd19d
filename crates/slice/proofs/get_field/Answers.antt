-- The guard, then 3, then the `width` bits from i on as a number, out of two neighbouring words; zeros past the words in use.
use mathlib.Core.Path.{sym, ◌∙◌}
use native.Mathlib.Omega.{arith}
use Rattle.storage.proofs.Checks.{passed, reading_is}
use Rattle.slice.proofs.Fields.{field-wide, field_is}
use Rattle.slice.proofs.get_field.Goals as goal

pub returns-then-width-gt64 : goal.returns-then-width-gt64
returns-then-width-gt64 c =
    let ok = passed c.args.words.now c.args.b (sym c.in_ok-check.was ∙ c.check.ensures) in
    reading_is _ _ _ _ _ ok (field-wide _ _ _ c.if-width-gt64.true)

pub returns : goal.returns
returns c =
    let ok = passed c.args.words.now c.args.b (sym c.in_ok-check.was ∙ c.check.ensures) in
    reading_is _ _ _ _ _ ok
    (field_is _ _ _ _ _ _ _ _
    (search arith)
    ok.inside (omega arith) c.word_at-lo.ensures
    c.word_at-hi.ensures c.funnel-from.ensures c.low_mask.ensures)
