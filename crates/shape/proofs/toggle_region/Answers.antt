-- The guard, then no change for k 0, then 4, then 6, then growth by zero words, and the k bits from i on flip.
use Rattle.shape.proofs.Toggles.{region-nothing, region_index_over, region_no_space, region-flipped}
use Rattle.storage.proofs.Grows.{no_room}
use Rattle.storage.proofs.Stores.{changes_raised}
use Rattle.storage.specs.Guards.{Passed}
use Rattle.storage.proofs.Checks.{passed}
use native.Mathlib.Omega.{arith}
use mathlib.Core.Path.{sym, ◌∙◌}
use Rattle.shape.proofs.toggle_region.Goals.{In_ok-check}
use Rattle.shape.proofs.toggle_region.Goals as goal

-- where the guard lets pass
passes : (c : In_ok-check) → Passed c.args.words.now c.args.b
passes c = passed _ _ (sym c.in_ok-check.was ∙ c.check.ensures)

pub returns-in_err-check : goal.returns-in_err-check
returns-in_err-check c = changes_raised _ _ _ c.from_residual.ensures (sym c.in_err-check.was ∙ c.check.ensures)

pub returns-then-k-eq0 : goal.returns-then-k-eq0
returns-then-k-eq0 c =
    let ok = passes (goal.at.returns-then-k-eq0 c).In_ok-check in
    region-nothing _ _ _ _ (search arith) ok c.if-k-eq0.true

pub returns-in_default : goal.returns-in_default
returns-in_default c =
    let ok = passes (goal.at.returns-in_default c).In_ok-check in
    region_index_over _ _ _ _ (search arith) ok c.if-k-eq0.false (omega (arith, c.in_default.ensures))

pub returns-in_err-grown : goal.returns-in_err-grown
returns-in_err-grown c =
    let ok = passes (goal.at.returns-in_err-grown c).In_ok-check in
    let s = c.in-Some.ensures in
    let g = c.in_err-grown.ensures in
    no_room _ _ _ _ _ c.from_residual-in_err-grown.ensures g
    (region_no_space _ _ _ _ (search arith) ok c.in-Some.last c.if-k-eq0.false (omega (arith, s.1)) (omega (arith, s.1, s.0)) (omega (arith, g)))

pub returns : goal.returns
returns c =
    let ok = passes (goal.at.returns c).In_ok-check in
    let s = c.in-Some.ensures in
    let g = c.in_ok-grown.ensures in
    region-flipped _ _ _ _ (search arith) ok c.in-Some.last c.if-k-eq0.false (omega (arith, s.1)) (omega (arith, s.1, s.0)) _ _ _ (omega (arith, g))
    g.1 c.flip_region.ensures g.2
