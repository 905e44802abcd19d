-- The guard, then no change past the words in use, then of its word the places of the mask stay; if that word is last and 0, trailing zero words go.
use mathlib.Core.Path.{sym, ◌∙◌}
use native.Mathlib.Omega.{arith}
use Rattle.storage.proofs.Checks.{passed}
use Rattle.storage.proofs.Stores.{changes_raised}
use Rattle.bitmap.proofs.Tidies.{keep-past, keep-changes}
use Rattle.bitmap.proofs.keep_places.Goals as goal

pub returns-in_err-check : goal.returns-in_err-check
returns-in_err-check c = changes_raised _ _ _ c.from_residual.ensures (sym c.in_err-check.was ∙ c.check.ensures)

pub returns-then-k-n : goal.returns-then-k-n
returns-then-k-n c =
    let ok = passed c.args.words.now c.args.b (sym c.in_ok-check.was ∙ c.check.ensures) in
    keep-past _ _ _ (search arith) ok _ c.if-k-n.true

pub returns : goal.returns
returns c =
    let ok = passed c.args.words.now c.args.b (sym c.in_ok-check.was ∙ c.check.ensures) in
    keep-changes _ _ _ (search arith) ok _ _ (omega arith) c.if-k-n.false c.tidy.ensures
