-- The guard, then what the kernel leaves of the words in use; the count and the other words stay.
use mathlib.Core.Path.{refl, sym, ◌∙◌}
use Rattle.storage.specs.Guards.{Passed}
use Rattle.storage.proofs.Checks.{passed}
use Rattle.storage.proofs.Stores.{changes_raised}
use Rattle.shift.proofs.Calls.{kept-changes}
use Rattle.shift.proofs.keep_count.Goals as goal

pub returns-in_err-check : goal.returns-in_err-check
returns-in_err-check g c op f m d = changes_raised op _ _ c.from_residual.ensures (sym c.in_err-check.was ∙ c.check.ensures)

pub returns : goal.returns
returns g c op f m d =
    let ok : Passed c.args.words.now c.args.b =
    passed _ _ (sym c.in_ok-check.was ∙ c.check.ensures) in
    kept-changes op f _ _ _ ok (d _ _) (m _ _ (record { shown = _; shows = refl; left = _; met = c.kernel.ensures; leaves = refl }))
