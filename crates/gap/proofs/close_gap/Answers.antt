-- The guard, then bits from p on are those k above, below p they stay, and trailing zero words go: what splitting, shifts and `or` make.
use mathlib.Core.Path.{sym, ◌∙◌}
use native.Mathlib.Omega.{arith}
use Rattle.storage.specs.Guards.{Passed}
use Rattle.storage.proofs.Checks.{passed}
use Rattle.storage.proofs.Stores.{changes_raised}
use Rattle.gap.proofs.Calls.{close_changes}
use Rattle.gap.proofs.close_gap.Goals.{In_ok-check}
use Rattle.gap.proofs.close_gap.Goals as goal

-- where the guard lets pass
passes : (c : In_ok-check) → Passed c.args.words.now c.args.b
passes c = passed _ _ (sym c.in_ok-check.was ∙ c.check.ensures)

pub returns-in_err-check : goal.returns-in_err-check
returns-in_err-check c = changes_raised _ _ _ c.from_residual.ensures (sym c.in_err-check.was ∙ c.check.ensures)

pub returns : goal.returns
returns c =
    let ok = passes (goal.at.returns c).In_ok-check in
    close_changes _ _ _ _ ok _ _
    (search arith) c.close_words.ensures
    c.nonzero_len.ensures
