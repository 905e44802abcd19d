-- The words behind the last one other than 0 are 0, all of them where there is none.
use Rattle.std.proofs.Common.{◌≡◌, rules}
use borrow.Author.Tests.{tests}
use Rattle.arch.proofs.Found.{last_from_rposition, left_in_rest}
use Rattle.arch.proofs.nonzero_len.Goals as goal

pub returns-in-Some : goal.returns-in-Some
returns-in-Some c =
    let f = left_in_rest _ _ _ c.zero_eights-end.ensures.0 c.zero_eights-end.ensures.1
    (last_from_rposition _ _ (λ w. w ≡ 0 → ⊥) (λ w. w ≡ 0) _ _ _ c.iter.ensures.rest c.iter.ensures.runs_back c.rposition.ensures.bound
    c.rposition.ensures.runs (search rules) (λ x k. search (rules, tests)) (λ x k. search (rules, tests))) in
    rw c.in-Some.is at f

pub returns-in-None : goal.returns-in-None
returns-in-None c =
    let f = left_in_rest _ _ _ c.zero_eights-end.ensures.0 c.zero_eights-end.ensures.1
    (last_from_rposition _ _ (λ w. w ≡ 0 → ⊥) (λ w. w ≡ 0) _ _ _ c.iter.ensures.rest c.iter.ensures.runs_back c.rposition.ensures.bound
    c.rposition.ensures.runs (search rules) (λ x k. search (rules, tests)) (λ x k. search (rules, tests))) in
    rw c.in-None.is at f
