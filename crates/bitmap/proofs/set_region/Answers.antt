-- The guard, then no change for k 0, then 4, then false clears what is there, then 6, then growth, and the k bits from i on are set.
use mathlib.Core.Path.{sym, ◌∙◌, ap}
use Prim.Native.Nat.{ℕ, ◌+◌}
use native.Mathlib.Omega.{arith}
use Rattle.bitmap.proofs.Regions.{region_cleared, region_no_space, region-set, region-nothing, region_index_over}
use Rattle.storage.proofs.Checks.{passed}
use Rattle.storage.proofs.Stores.{changes_raised}
use Rattle.storage.proofs.Grows.{no_room}
use Rattle.bitmap.proofs.set_region.Goals as goal

pub returns-in_err-check : goal.returns-in_err-check
returns-in_err-check c = changes_raised _ _ _ c.from_residual.ensures (sym c.in_err-check.was ∙ c.check.ensures)

pub returns-then-k-eq0 : goal.returns-then-k-eq0
returns-then-k-eq0 c =
    let ok = passed c.args.words.now c.args.b (sym c.in_ok-check.was ∙ c.check.ensures) in
    region-nothing _ _ _ _ (search arith) ok _ c.if-k-eq0.true

pub returns-in_default : goal.returns-in_default
returns-in_default c =
    let ok = passed c.args.words.now c.args.b (sym c.in_ok-check.was ∙ c.check.ensures) in
    region_index_over _ _ _ _ (search arith) ok _ c.if-k-eq0.false (omega (arith, c.in_default.ensures))

pub returns-then-not-value : goal.returns-then-not-value
returns-then-not-value c =
    let ok = passed c.args.words.now c.args.b (sym c.in_ok-check.was ∙ c.check.ensures) in
    let s = c.in-Some.ensures in
    region_cleared _ _ _ _
    (search arith)
    ok _
    c.if-k-eq0.false (omega (arith, s.1)) (omega (arith, s.0, s.1)) _ _ _
    c.if-not-value.true (ap (λ (x : ℕ). x + 1) c.min.ensures)
    c.fill_region.ensures

pub returns-in_err-grown : goal.returns-in_err-grown
returns-in_err-grown c =
    let ok = passed c.args.words.now c.args.b (sym c.in_ok-check.was ∙ c.check.ensures) in
    let s = c.in-Some.ensures in
    let g = c.in_err-grown.ensures in
    no_room _ _ _ _ _ c.from_residual-in_err-grown.ensures g
    (region_no_space _ _ _ _ (search arith) ok c.in-Some.last c.if-k-eq0.false (omega (arith, s.1)) (omega (arith, s.0, s.1)) _ c.if-not-value.false (omega (arith, g)))

pub returns : goal.returns
returns c =
    let ok = passed c.args.words.now c.args.b (sym c.in_ok-check.was ∙ c.check.ensures) in
    let s = c.in-Some.ensures in
    let g = c.in_ok-grown.ensures in
    region-set _ _ _ _ (search arith) ok c.in-Some.last c.if-k-eq0.false (omega (arith, s.1)) (omega (arith, s.0, s.1)) _ _ _ _
    c.if-not-value.false (omega (arith, g)) g.1 c.fill_region-2.ensures g.2
