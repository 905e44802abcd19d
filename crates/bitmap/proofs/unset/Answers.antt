-- The guard, then no change past the words in use, then bit i is cleared; the count stays.
use mathlib.Core.Path.{sym, ◌∙◌}
use native.Mathlib.Omega.{arith}
use Rattle.storage.proofs.Checks.{passed}
use Rattle.storage.proofs.Stores.{changes_raised}
use Rattle.bitmap.proofs.Singles.{unset-past, unset-changes}
use Rattle.bitmap.proofs.unset.Goals as goal

pub returns-in_err-check : goal.returns-in_err-check
returns-in_err-check c = changes_raised _ _ _ c.from_residual.ensures (sym c.in_err-check.was ∙ c.check.ensures)

pub returns-then-k-n : goal.returns-then-k-n
returns-then-k-n c =
    let ok = passed c.args.words.now c.args.b (sym c.in_ok-check.was ∙ c.check.ensures) in
    unset-past _ _ _ (search arith) ok c.if-k-n.true

pub returns : goal.returns
returns c =
    let ok = passed c.args.words.now c.args.b (sym c.in_ok-check.was ∙ c.check.ensures) in
    unset-changes _ _ _ (search arith) ok _ (omega arith) c.bit.ensures
