-- The guard, then 6 where the store has no word for one of the bits, then growth by zero words, and every listed bit is set.
use mathlib.Core.Path.{sym, ◌∙◌}
use native.Mathlib.Omega.{arith}
use Rattle.storage.proofs.Checks.{passed}
use Rattle.storage.proofs.Stores.{changes_raised}
use Rattle.storage.proofs.Grows.{no_room}
use Rattle.bitmap.proofs.Many.{many_refused, many_changes}
use Rattle.bitmap.proofs.set_many.Goals as goal

pub returns-in_err-check : goal.returns-in_err-check
returns-in_err-check c = changes_raised _ _ _ c.from_residual.ensures (sym c.in_err-check.was ∙ c.check.ensures)

pub returns-in_err-grown : goal.returns-in_err-grown
returns-in_err-grown c =
    let ok = passed c.args.words.now c.args.b (sym c.in_ok-check.was ∙ c.check.ensures) in
    let g = c.in_err-grown.ensures in
    no_room _ _ _ _ _ c.from_residual-in_err-grown.ensures g
    (many_refused c.args.words.now c.args.bits.now c.args.b (search arith) ok (omega (arith, g, c.reach.ensures)))

pub returns : goal.returns
returns c =
    let ok = passed c.args.words.now c.args.b (sym c.in_ok-check.was ∙ c.check.ensures) in
    let g = c.in_ok-grown.ensures in
    many_changes c.args.words.now c.args.bits.now c.args.b (search arith) ok _ _ _ _
    c.reach.ensures g.0 g.1 c.set_listed.ensures g.2
