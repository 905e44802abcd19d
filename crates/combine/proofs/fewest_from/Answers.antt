-- The guard of three stores, then what the operation makes, in the fewest words, counted before one is written.
use mathlib.Core.Path.{sym, ◌∙◌}
use lib.Seq.{length-take-le}
use Rattle.storage.proofs.Checks.{passed_three}
use Rattle.combine.proofs.Guards.{three_raised}
use Rattle.combine.proofs.Froms.{comes_fewest}
use Rattle.combine.proofs.Writes.{fewest_end}
use Rattle.combine.proofs.fewest_from.Goals as goal

pub returns-in_err-check_three : goal.returns-in_err-check_three
returns-in_err-check_three c = three_raised _ _ _ _ _ _ _ c.from_residual.ensures (sym c.in_err-check_three.was ∙ c.check_three.ensures)

pub slice_bounds-x-end : goal.slice_bounds-x-end
slice_bounds-x-end c = let ok = passed_three _ _ _ _ _ _ (sym c.in_ok-check_three.was ∙ c.check_three.ensures) in sym (length-take-le _ _ ok.left.inside)

pub slice_bounds-y-end : goal.slice_bounds-y-end
slice_bounds-y-end c = let ok = passed_three _ _ _ _ _ _ (sym c.in_ok-check_three.was ∙ c.check_three.ensures) in sym (length-take-le _ _ ok.right.inside)

pub put-requires-clause-within : goal.put-requires-clause-within
put-requires-clause-within c = fewest_end _ _ _ _ c.nonzero_len.ensures

pub returns : goal.returns
returns c =
    let ok = passed_three _ _ _ _ _ _ (sym c.in_ok-check_three.was ∙ c.check_three.ensures) in
    comes_fewest _ _ _ _ _ _ ok _ _ c.nonzero_len.ensures c.put.ensures
