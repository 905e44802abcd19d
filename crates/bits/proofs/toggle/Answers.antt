-- The guard, then 5 for a word past those in use, then bit i flips and no other.
use mathlib.Core.Path.{sym, ◌∙◌}
use native.Mathlib.Omega.{arith}
use Rattle.storage.proofs.Checks.{passed}
use Rattle.storage.proofs.Stores.{changes_raised}
use Rattle.bits.proofs.Moves.{toggle-past, toggle-changes}
use Rattle.bits.proofs.toggle.Goals as goal

pub returns-in_err-check : goal.returns-in_err-check
returns-in_err-check c = changes_raised _ _ _ c.from_residual.ensures (sym c.in_err-check.was ∙ c.check.ensures)

pub returns-then-k-n : goal.returns-then-k-n
returns-then-k-n c =
    let ok = passed c.args.words.now c.args.b (sym c.in_ok-check.was ∙ c.check.ensures) in
    toggle-past _ _ _ ok c.if-k-n.true

pub returns : goal.returns
returns c =
    let ok = passed c.args.words.now c.args.b (sym c.in_ok-check.was ∙ c.check.ensures) in
    toggle-changes _ _ _ _ (search arith) ok (omega arith) c.bit.ensures
