-- The guard, then 3, then no change for width 0, then 5, then the field has the value's low bits, within one word or over two.
use mathlib.Core.Path.{sym, ◌∙◌}
use native.Mathlib.Omega.{arith}
use Rattle.storage.proofs.Checks.{passed}
use Rattle.storage.proofs.Stores.{changes_raised}
use Rattle.slice.proofs.Stricts.{refused-wide, refused-past, done_none, done_one, done_two}
use Rattle.slice.proofs.set_field_strict.Goals as goal

pub returns-in_err-check : goal.returns-in_err-check
returns-in_err-check c = changes_raised _ _ _ c.from_residual.ensures (sym c.in_err-check.was ∙ c.check.ensures)

pub returns-then-width-gt64 : goal.returns-then-width-gt64
returns-then-width-gt64 c =
    let ok = passed c.args.words.now c.args.b (sym c.in_ok-check.was ∙ c.check.ensures) in
    refused-wide _ _ _ _ _ ok c.if-width-gt64.true

pub returns-then-width-eq0 : goal.returns-then-width-eq0
returns-then-width-eq0 c =
    let ok = passed c.args.words.now c.args.b (sym c.in_ok-check.was ∙ c.check.ensures) in
    done_none _ _ _ _ _ ok (search arith) c.if-width-eq0.true

pub returns-then-width-saturating_sub : goal.returns-then-width-saturating_sub
returns-then-width-saturating_sub c =
    let ok = passed c.args.words.now c.args.b (sym c.in_ok-check.was ∙ c.check.ensures) in
    refused-past _ _ _ _ _ ok (omega arith) (omega arith) (omega (arith, c.saturating_sub.ensures))

pub returns-then-r-width-le64 : goal.returns-then-r-width-le64
returns-then-r-width-le64 c =
    let ok = passed c.args.words.now c.args.b (sym c.in_ok-check.was ∙ c.check.ensures) in
    done_one _ _ _ _ _ ok
    (search arith)
    (omega arith) (omega arith) (omega (arith, c.saturating_sub.ensures)) _ _
    (omega arith) c.low_mask.ensures c.overlay.ensures

pub returns : goal.returns
returns c =
    let ok = passed c.args.words.now c.args.b (sym c.in_ok-check.was ∙ c.check.ensures) in
    done_two _ _ _ _ _ ok
    (search arith)
    (omega arith) (omega arith)
    (omega (arith, c.saturating_sub.ensures)) _ _ _ _
    (omega arith) c.low_mask.ensures
    c.low_mask-2.ensures c.overlay.ensures
    c.overlay-2.ensures
