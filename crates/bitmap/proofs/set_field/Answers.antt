-- The guard, then 3, then a field of zeros by `set_region`, then 4, then 6, then growth, and the field's bits are those of the value.
use mathlib.Core.Path.{sym, ap, ◌∙◌}
use Prim.Native.Nat.{ℕ, ◌/◌}
use native.Mathlib.Omega.{arith}
use Rattle.storage.proofs.Checks.{passed}
use Rattle.storage.proofs.Stores.{changes_raised}
use Rattle.storage.proofs.Grows.{no_room}
use Rattle.bitmap.proofs.Fields.{some_digit, wide-changes, zeros-changes, over-changes, no_space_changes, grown-changes}
use Rattle.bitmap.proofs.set_field.Goals as goal

pub returns-in_err-check : goal.returns-in_err-check
returns-in_err-check c = changes_raised _ _ _ c.from_residual.ensures (sym c.in_err-check.was ∙ c.check.ensures)

pub returns-then-width-gt64 : goal.returns-then-width-gt64
returns-then-width-gt64 c =
    let ok = passed c.args.words.now c.args.b (sym c.in_ok-check.was ∙ c.check.ensures) in
    wide-changes _ _ _ _ _ ok c.if-width-gt64.true

pub returns-then-value-low_mask-eq0 : goal.returns-then-value-low_mask-eq0
returns-then-value-low_mask-eq0 c =
    let ok = passed c.args.words.now c.args.b (sym c.in_ok-check.was ∙ c.check.ensures) in
    zeros-changes _ _ _ _ _ ok _ _ _ (omega arith) (omega arith)
    c.low_mask.ensures c.if-value-low_mask-eq0.true
    c.set_region.ensures

pub overflow_sub-width : goal.overflow_sub-width
overflow_sub-width c =
    (some_digit c.args.value
    c.args.width _ (omega arith) (omega arith)
    c.low_mask.ensures c.if-value-low_mask-eq0.false).pos

pub returns-in_default : goal.returns-in_default
returns-in_default c =
    let ok = passed c.args.words.now c.args.b (sym c.in_ok-check.was ∙ c.check.ensures) in
    let d = some_digit c.args.value c.args.width _ (omega arith) (omega arith) c.low_mask.ensures c.if-value-low_mask-eq0.false in
    over-changes _ _ _ _ _ ok d (omega (arith, d.pos, c.in_default.ensures))

pub returns-in_err-grown : goal.returns-in_err-grown
returns-in_err-grown c =
    let ok = passed c.args.words.now c.args.b (sym c.in_ok-check.was ∙ c.check.ensures) in
    let s = c.in-Some.ensures in
    let g = c.in_err-grown.ensures in
    no_room _ _ _ _ _ c.from_residual-in_err-grown.ensures g
    (no_space_changes _ _ _ _ _ ok (some_digit _ _ _ (omega arith) (omega arith) c.low_mask.ensures c.if-value-low_mask-eq0.false) _ (omega (arith, s.0, s.1)) (ap (λ (y : ℕ). y / 64) s.1) (omega (arith, g)))

pub returns : goal.returns
returns c =
    let ok = passed c.args.words.now c.args.b (sym c.in_ok-check.was ∙ c.check.ensures) in
    let s = c.in-Some.ensures in
    let g = c.in_ok-grown.ensures in
    grown-changes _ _ _ _ _ ok (some_digit _ _ _ (omega arith) (omega arith) c.low_mask.ensures c.if-value-low_mask-eq0.false) _ (omega (arith, s.0, s.1)) (ap (λ (y : ℕ). y / 64) s.1) _ _ _ _
    (omega (arith, g)) g.1 g.2 c.set_field_strict.ensures
