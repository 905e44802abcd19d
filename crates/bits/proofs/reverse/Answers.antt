-- The guard, then bit i goes to the length less i less 1, and the words out of use stay.
use mathlib.Core.Path.{sym, ◌∙◌}
use Rattle.storage.proofs.Checks.{passed}
use Rattle.storage.proofs.Stores.{changes_raised}
use Rattle.bits.proofs.Moves.{reverse-changes}
use Rattle.bits.proofs.reverse.Goals as goal

pub returns-in_err-check : goal.returns-in_err-check
returns-in_err-check c = changes_raised _ _ _ c.from_residual.ensures (sym c.in_err-check.was ∙ c.check.ensures)

pub returns : goal.returns
returns c =
    let ok = passed c.args.words.now c.args.b (sym c.in_ok-check.was ∙ c.check.ensures) in
    reverse-changes _ _ _ ok c.reverse_words.ensures
