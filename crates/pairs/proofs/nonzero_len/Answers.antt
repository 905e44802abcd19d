-- The length of what the operation makes, without trailing zero words: those from `end` on are 0, and so are those behind the last other one below it.
use Rattle.std.proofs.Common.{rules, ◌≡◌, get_or, arith}
use borrow.Author.Tests.{tests}
use Rattle.pairs.specs.Pairs.{words_by}
use Rattle.pairs.proofs.Scans.{last_from_rfind, length_at, length_none}
use Rattle.pairs.proofs.nonzero_len.Goals as goal

pub overflow_add-result : goal.overflow_add-result
overflow_add-result c =
    let g = c.args in
    let last = last_from_rfind _ _ (λ k. get_or (words_by g.op g.a.now g.b.now) k 0 ≡ 0 → ⊥) (λ k. get_or (words_by g.op g.a.now g.b.now) k 0 ≡ 0)
    (λ x q t. search (rules, tests)) (λ x q t. search (rules, tests)) _ _ c.rfind.result c.rfind.ensures.ran in
    omega (arith, (rw c.in-Some.is at last).0)

pub returns-in-Some : goal.returns-in-Some
returns-in-Some c =
    let g = c.args in
    let last = last_from_rfind _ _ (λ k. get_or (words_by g.op g.a.now g.b.now) k 0 ≡ 0 → ⊥) (λ k. get_or (words_by g.op g.a.now g.b.now) k 0 ≡ 0)
    (λ x q t. search (rules, tests)) (λ x q t. search (rules, tests)) _ _ c.rfind.result c.rfind.ensures.ran in
    length_at _ _ _ _ _ c.end_of.ensures c.zero_eights_down-end.ensures _ (rw c.in-Some.is at last)

pub returns-in-None : goal.returns-in-None
returns-in-None c =
    let g = c.args in
    let last = last_from_rfind _ _ (λ k. get_or (words_by g.op g.a.now g.b.now) k 0 ≡ 0 → ⊥) (λ k. get_or (words_by g.op g.a.now g.b.now) k 0 ≡ 0)
    (λ x q t. search (rules, tests)) (λ x q t. search (rules, tests)) _ _ c.rfind.result c.rfind.ensures.ran in
    length_none _ _ _ _ _ c.end_of.ensures c.zero_eights_down-end.ensures (rw c.in-None.is at last)
