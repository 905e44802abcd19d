-- The guard, then the bits from k on are cleared, and trailing zero words go.
use Rattle.shape.proofs.Sizes.{truncate_changes}
use Rattle.storage.proofs.Stores.{changes_raised}
use Rattle.storage.specs.Guards.{Passed}
use Rattle.storage.proofs.Checks.{passed}
use native.Mathlib.Omega.{arith}
use mathlib.Core.Path.{sym, ◌∙◌}
use Rattle.shape.proofs.truncate_bits.Goals.{In_ok-check}
use Rattle.shape.proofs.truncate_bits.Goals as goal

-- where the guard lets pass
passes : (c : In_ok-check) → Passed c.args.words.now c.args.b
passes c = passed _ _ (sym c.in_ok-check.was ∙ c.check.ensures)

pub returns-in_err-check : goal.returns-in_err-check
returns-in_err-check c = changes_raised _ _ _ c.from_residual.ensures (sym c.in_err-check.was ∙ c.check.ensures)

pub returns : goal.returns
returns c =
    let ok = passes (goal.at.returns c).In_ok-check in
    truncate_changes _ _ _ (search arith)
    ok _ _ c.fill_region.ensures c.nonzero_len.ensures
