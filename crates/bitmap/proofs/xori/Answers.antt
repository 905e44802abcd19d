-- The guard, then 6 where the store has no word for i, then growth, and bit i flips; if its word is last and 0, trailing zero words go.
use mathlib.Core.Path.{sym, ◌∙◌}
use native.Mathlib.Omega.{arith}
use Rattle.storage.proofs.Checks.{passed}
use Rattle.storage.proofs.Stores.{changes_raised}
use Rattle.storage.proofs.Grows.{no_room}
use Rattle.bitmap.proofs.Tidies.{xori-refused, xori-changes}
use Rattle.bitmap.proofs.xori.Goals as goal

pub returns-in_err-check : goal.returns-in_err-check
returns-in_err-check c = changes_raised _ _ _ c.from_residual.ensures (sym c.in_err-check.was ∙ c.check.ensures)

pub returns-in_err-grown : goal.returns-in_err-grown
returns-in_err-grown c =
    let ok = passed c.args.words.now c.args.b (sym c.in_ok-check.was ∙ c.check.ensures) in
    let g = c.in_err-grown.ensures in
    no_room _ _ _ _ _ c.from_residual-in_err-grown.ensures g
    (xori-refused _ _ _ (search arith) ok (omega (arith, g)))

pub returns : goal.returns
returns c =
    let ok = passed c.args.words.now c.args.b (sym c.in_ok-check.was ∙ c.check.ensures) in
    let g = c.in_ok-grown.ensures in
    xori-changes _ _ _ (search arith) ok _ _ _ _ (omega (arith, g)) g.1 c.bit.ensures g.2 c.tidy.ensures
