-- The guard, then every bit of the words in use flips, and the other words stay.
use mathlib.Core.Path.{sym, ◌∙◌}
use Rattle.storage.proofs.Checks.{passed}
use Rattle.storage.proofs.Stores.{changes_raised}
use Rattle.bits.proofs.Moves.{invert-changes}
use Rattle.bits.proofs.invert.Goals as goal

pub returns-in_err-check : goal.returns-in_err-check
returns-in_err-check c = changes_raised _ _ _ c.from_residual.ensures (sym c.in_err-check.was ∙ c.check.ensures)

pub returns : goal.returns
returns c =
    let ok = passed c.args.words.now c.args.b (sym c.in_ok-check.was ∙ c.check.ensures) in
    invert-changes _ _ _ ok c.invert_words.ensures
