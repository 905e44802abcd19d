-- The guard, then 6, then the bits from k on are cleared, and exactly the words that k bits need are in use.
use Rattle.shape.proofs.Sizes.{resize_refused, resize_changes}
use Rattle.storage.proofs.Grows.{no_room}
use Rattle.storage.proofs.Stores.{changes_raised}
use Rattle.storage.specs.Guards.{Passed}
use Rattle.storage.proofs.Checks.{passed}
use native.Mathlib.Omega.{arith}
use mathlib.Core.Path.{sym, ◌∙◌}
use Rattle.shape.proofs.resize_bits.Goals.{In_ok-check}
use Rattle.shape.proofs.resize_bits.Goals as goal

-- where the guard lets pass
passes : (c : In_ok-check) → Passed c.args.words.now c.args.b
passes c = passed _ _ (sym c.in_ok-check.was ∙ c.check.ensures)

pub returns-in_err-check : goal.returns-in_err-check
returns-in_err-check c = changes_raised _ _ _ c.from_residual.ensures (sym c.in_err-check.was ∙ c.check.ensures)

pub returns-in_err-m : goal.returns-in_err-m
returns-in_err-m c =
    let ok = passes (goal.at.returns-in_err-m c).In_ok-check in
    let g = c.in_err-m.ensures in
    no_room _ _ _ _ _ c.from_residual-in_err-m.ensures g (resize_refused _ _ _ (search arith) ok _ c.div_ceil-need.ensures (omega (arith, g)))

pub returns : goal.returns
returns c =
    let ok = passes (goal.at.returns c).In_ok-check in
    let g = c.in_ok-m.ensures in
    resize_changes _ _ _ (search arith) ok _ _ _ _ c.div_ceil-need.ensures (omega (arith, g)) g.1 g.2 c.fill_region.ensures
