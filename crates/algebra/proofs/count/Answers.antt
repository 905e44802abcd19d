-- The guard of both stores, then how many members the operation makes of the words in use.
use Rattle.std.proofs.Common.{sym, ◌∙◌, length-take-le}
use Rattle.storage.proofs.Checks.{passed_two}
use Rattle.algebra.proofs.Readings.{count_raised, counted}
use Rattle.algebra.proofs.count.Goals as goal

pub returns-in_err-check_two : goal.returns-in_err-check_two
returns-in_err-check_two c = count_raised _ _ _ _ _ c.from_residual.ensures (sym c.in_err-check_two.was ∙ c.check_two.ensures)

pub slice_bounds-set_bits-end : goal.slice_bounds-set_bits-end
slice_bounds-set_bits-end c = let ok = passed_two _ _ _ _ (sym c.in_ok-check_two.was ∙ c.check_two.ensures) in sym (length-take-le _ _ ok.own.inside)

pub slice_bounds-set_bits-end-2 : goal.slice_bounds-set_bits-end-2
slice_bounds-set_bits-end-2 c = let ok = passed_two _ _ _ _ (sym c.in_ok-check_two.was ∙ c.check_two.ensures) in sym (length-take-le _ _ ok.other.inside)

pub returns : goal.returns
returns c = counted _ _ _ _ _ (passed_two _ _ _ _ (sym c.in_ok-check_two.was ∙ c.check_two.ensures)) c.set_bits.ensures
