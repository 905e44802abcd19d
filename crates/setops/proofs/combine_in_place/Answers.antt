-- The guard of both stores, then 6 where the words that can be needed have no space, then what the operation makes, without trailing zero words.
use mathlib.Core.Path.{sym, ap, ◌∙◌}
use native.Mathlib.Omega.{arith}
use lib.Seq.{length-take-le}
use Rattle.pairs.specs.Pairs.{end_by}
use Rattle.storage.proofs.Checks.{passed_two}
use Rattle.storage.proofs.Stores.{two_raised}
use Rattle.setops.proofs.Combine.{front_inside, fewest_refused, fewest_done}
use Rattle.setops.proofs.combine_in_place.Goals as goal

pub returns-in_err-check_two : goal.returns-in_err-check_two
returns-in_err-check_two c = two_raised _ _ _ _ _ c.from_residual.ensures (sym c.in_err-check_two.was ∙ c.check_two.ensures)

pub slice_bounds-needed-end : goal.slice_bounds-needed-end
slice_bounds-needed-end c = let ok = passed_two _ _ _ _ (sym c.in_ok-check_two.was ∙ c.check_two.ensures) in sym (length-take-le _ _ ok.other.inside)

pub returns-then-end-words : goal.returns-then-end-words
returns-then-end-words c =
    let ok = passed_two _ _ _ _ (sym c.in_ok-check_two.was ∙ c.check_two.ensures) in
    fewest_refused _ _ _ _ ok (λ k. (c.type_inv.other k).fits) _ _ _ c.needed-last.ensures c.end_of-end.ensures c.if-end-words.true

pub slice_bounds-put-end : goal.slice_bounds-put-end
slice_bounds-put-end c =
    let ok = passed_two _ _ _ _ (sym c.in_ok-check_two.was ∙ c.check_two.ensures) in
    sym (length-take-le _ _ (front_inside _ _ _ _ ok (λ k. (c.type_inv.other k).fits) _ _ _ c.needed-last.ensures c.end_of-end.ensures))

pub put-requires : goal.put-requires
put-requires c =
    let a = c.args in
    let ok = passed_two _ _ _ _ (sym c.in_ok-check_two.was ∙ c.check_two.ensures) in
    let front = front_inside _ _ _ _ ok (λ k. (c.type_inv.other k).fits) _ _ _ c.needed-last.ensures c.end_of-end.ensures in
    (ok.own.inside, c.if-end-words.false, c.end_of-end.ensures ∙ ap (end_by a.op a.b.count) (sym (length-take-le _ a.other.now front)))

pub returns : goal.returns
returns c =
    let ok = passed_two _ _ _ _ (sym c.in_ok-check_two.was ∙ c.check_two.ensures) in
    fewest_done _ _ _ _ ok (λ k. (c.type_inv.other k).fits) _ _ _ c.needed-last.ensures c.end_of-end.ensures _ _
    (omega (arith, c.if-end-words.false)) c.put.ensures c.nonzero_len.ensures
