-- The guard of three stores, then the members of either in as many words as the longer.
use mathlib.Core.Path.{sym, ◌∙◌}
use lib.Seq.{length-take-le}
use Rattle.storage.proofs.Checks.{passed_three}
use Rattle.combine.proofs.Guards.{three_raised}
use Rattle.combine.proofs.Froms.{comes_union, union_holds, union_within}
use Rattle.combine.proofs.or_from.Goals as goal

pub returns-in_err-check_three : goal.returns-in_err-check_three
returns-in_err-check_three c = three_raised _ _ _ _ _ _ _ c.from_residual.ensures (sym c.in_err-check_three.was ∙ c.check_three.ensures)

pub slice_bounds-put-end : goal.slice_bounds-put-end
slice_bounds-put-end c = let ok = passed_three _ _ _ _ _ _ (sym c.in_ok-check_three.was ∙ c.check_three.ensures) in sym (length-take-le _ _ ok.left.inside)

pub slice_bounds-put-end-2 : goal.slice_bounds-put-end-2
slice_bounds-put-end-2 c = let ok = passed_three _ _ _ _ _ _ (sym c.in_ok-check_three.was ∙ c.check_three.ensures) in sym (length-take-le _ _ ok.right.inside)

pub put-requires : goal.put-requires
put-requires c =
    let ok = passed_three _ _ _ _ _ _ (sym c.in_ok-check_three.was ∙ c.check_three.ensures) in
    record { holds = union_holds _ _ _ _ _ _ ok _ c.max-m.ensures; within = union_within _ _ _ _ _ _ ok _ c.max-m.ensures }

pub returns : goal.returns
returns c =
    let ok = passed_three _ _ _ _ _ _ (sym c.in_ok-check_three.was ∙ c.check_three.ensures) in
    comes_union _ _ _ _ _ _ ok _ c.max-m.ensures c.put.ensures
