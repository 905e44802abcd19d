-- The guard, then 6 where the store has no word for i, then growth by zero words, and bit i flips.
use mathlib.Core.Path.{sym, ◌∙◌}
use native.Mathlib.Omega.{arith}
use Rattle.storage.specs.Guards.{Passed}
use Rattle.storage.proofs.Checks.{passed}
use Rattle.storage.proofs.Grows.{no_room}
use Rattle.storage.proofs.Stores.{changes_raised}
use Rattle.shape.proofs.Toggles.{toggle-refused, toggle-changes}
use Rattle.shape.proofs.toggle.Goals.{In_ok-check}
use Rattle.shape.proofs.toggle.Goals as goal

-- where the guard lets pass
passes : (c : In_ok-check) → Passed c.args.words.now c.args.b
passes c = passed _ _ (sym c.in_ok-check.was ∙ c.check.ensures)

pub returns-in_err-check : goal.returns-in_err-check
returns-in_err-check c = changes_raised _ _ _ c.from_residual.ensures (sym c.in_err-check.was ∙ c.check.ensures)

pub returns-in_err-grown : goal.returns-in_err-grown
returns-in_err-grown c =
    let ok = passes (goal.at.returns-in_err-grown c).In_ok-check in
    let g = c.in_err-grown.ensures in
    no_room _ _ _ _ _ c.from_residual-in_err-grown.ensures g (toggle-refused _ _ _ (search arith) ok (omega (arith, g)))

pub returns : goal.returns
returns c =
    let ok = passes (goal.at.returns c).In_ok-check in
    let g = c.in_ok-grown.ensures in
    toggle-changes _ _ _ (search arith) ok _ _ _ (omega (arith, g)) g.1 c.bit.ensures g.2
