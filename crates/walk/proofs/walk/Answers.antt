-- The guard of both stores, then the least number from i on that the operation makes: in i's word or the next, else from the word behind them on.
use mathlib.Core.Path.{sym, ◌∙◌}
use lib.Seq.{length-take-le}
use Rattle.storage.proofs.Checks.{passed_two}
use Rattle.storage.proofs.Combined.{part_short}
use Rattle.walk.proofs.Walks.{below_found, walk_raised, walked}
use Rattle.walk.proofs.walk.Goals as goal

pub returns-in_err-check_two : goal.returns-in_err-check_two
returns-in_err-check_two c = walk_raised _ _ _ _ _ _ c.from_residual.ensures (sym c.in_err-check_two.was ∙ c.check_two.ensures)

pub slice_bounds-first-end : goal.slice_bounds-first-end
slice_bounds-first-end c = let ok = passed_two _ _ _ _ (sym c.in_ok-check_two.was ∙ c.check_two.ensures) in sym (length-take-le _ _ ok.own.inside)

pub slice_bounds-second-end : goal.slice_bounds-second-end
slice_bounds-second-end c = let ok = passed_two _ _ _ _ (sym c.in_ok-check_two.was ∙ c.check_two.ensures) in sym (length-take-le _ _ ok.other.inside)

pub near-requires : goal.near-requires
near-requires c =
    let ok = passed_two _ _ _ _ (sym c.in_ok-check_two.was ∙ c.check_two.ensures) in
    record { a_short = part_short _ _ ok.own; b_short = part_short _ _ ok.other }

pub returns-in-Some : goal.returns-in-Some
returns-in-Some c =
    let ok = passed_two _ _ _ _ (sym c.in_ok-check_two.was ∙ c.check_two.ensures) in
    walked _ _ _ _ _ _ ok (below_found c.near.ensures c.in-Some.is)

pub far-requires : goal.far-requires
far-requires c =
    let ok = passed_two _ _ _ _ (sym c.in_ok-check_two.was ∙ c.check_two.ensures) in
    record { a_short = part_short _ _ ok.own; b_short = part_short _ _ ok.other }

pub returns : goal.returns
returns c =
    let ok = passed_two _ _ _ _ (sym c.in_ok-check_two.was ∙ c.check_two.ensures) in
    walked _ _ _ _ _ _ ok (c.far.ensures _ (c.near.ensures.nothing c.in_default.is))
