-- The guard of both stores, then whether the operation makes no member of the words in use.
use Rattle.std.proofs.Common.{sym, ◌∙◌, length-take-le}
use Rattle.storage.proofs.Checks.{passed_two}
use Rattle.algebra.proofs.Readings.{test_raised, tested}
use Rattle.algebra.proofs.makes_none.Goals as goal

pub returns-in_err-check_two : goal.returns-in_err-check_two
returns-in_err-check_two c = test_raised _ _ _ _ _ c.from_residual.ensures (sym c.in_err-check_two.was ∙ c.check_two.ensures)

pub slice_bounds-is_zero-end : goal.slice_bounds-is_zero-end
slice_bounds-is_zero-end c = let ok = passed_two _ _ _ _ (sym c.in_ok-check_two.was ∙ c.check_two.ensures) in sym (length-take-le _ _ ok.own.inside)

pub slice_bounds-is_zero-end-2 : goal.slice_bounds-is_zero-end-2
slice_bounds-is_zero-end-2 c = let ok = passed_two _ _ _ _ (sym c.in_ok-check_two.was ∙ c.check_two.ensures) in sym (length-take-le _ _ ok.other.inside)

pub returns : goal.returns
returns c = tested _ _ _ _ _ (passed_two _ _ _ _ (sym c.in_ok-check_two.was ∙ c.check_two.ensures)) c.is_zero.ensures
