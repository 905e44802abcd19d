-- The least member from i on, or nothing, for every i with none up to word `from`: behind the eights that are zero, the first word that is not.
use Rattle.std.proofs.Common.{rules, ◌≡◌, ◌+◌, length, get_or, max, sym, ◌∙◌, arith}
use Rattle.std.proofs.lemmas.Iterator.{first_from_Range}
use borrow.Author.Tests.{tests}
use Rattle.arch.specs.Scans.{Alike}
use Rattle.arch.proofs.Scans.{alike_join}
use Rattle.pairs.specs.Pairs.{words_by}
use Rattle.pairs.proofs.Tables.{by_fit, end-le}
use Rattle.pairs.proofs.Scans.{past_end, eights_zero}
use Rattle.walk.proofs.Walks.{least64, clear_on, next_later, next_none}
use Rattle.walk.proofs.kernels.far.Goals as goal

pub returns-in_err-k : goal.returns-in_err-k
returns-in_err-k c =
    let g = c.args in
    let ws = words_by g.op g.a.now g.b.now in
    let first = first_from_Range _ _ _ c.find.result (λ k. get_or ws k 0 ≡ 0 → ⊥) (λ k. get_or ws k 0 ≡ 0) c.find.ensures.ran
    (λ x q t. search (rules, tests)) (λ x q t. search (rules, tests)) in
    let none = rw c.in_err-k.was at first in
    let eights = eights_zero _ _ _ _ c.zero_eights.ensures in
    let end = c.end_of-end.result in
    let top = max c.zero_eights.result end in
    let zero : Alike ws 0 c.zero_eights.result top = record { at = λ k a b. none k a (omega arith) } in
    let rest = past_end _ _ _ _ c.end_of-end.ensures (top + length ws) in
    rw c.from_residual.ensures
    (λ i h. next_none _ (by_fit _ _ _) (clear_on _ (by_fit _ _ _) h (omega (arith, eights.0)) (alike_join eights.1 (alike_join zero rest (omega arith)) (omega arith))) (omega arith))

pub overflow_mul-result : goal.overflow_mul-result
overflow_mul-result c =
    let g = c.args in
    let ws = words_by g.op g.a.now g.b.now in
    let first = first_from_Range _ _ _ c.find.result (λ k. get_or ws k 0 ≡ 0 → ⊥) (λ k. get_or ws k 0 ≡ 0) c.find.ensures.ran
    (λ x q t. search (rules, tests)) (λ x q t. search (rules, tests)) in
    let found = rw c.in_ok-k.was at first in
    omega (arith, found.1, c.end_of-end.ensures, end-le g.op (length g.a.now) (length g.b.now))

pub overflow_add-result : goal.overflow_add-result
overflow_add-result c =
    let g = c.args in
    let ws = words_by g.op g.a.now g.b.now in
    let first = first_from_Range _ _ _ c.find.result (λ k. get_or ws k 0 ≡ 0 → ⊥) (λ k. get_or ws k 0 ≡ 0) c.find.ensures.ran
    (λ x q t. search (rules, tests)) (λ x q t. search (rules, tests)) in
    let found = rw c.in_ok-k.was at first in
    omega (arith, found.1, c.trailing_zeros.ensures, least64 c.word_at.result, c.end_of-end.ensures, end-le g.op (length g.a.now) (length g.b.now))

pub returns : goal.returns
returns c =
    λ i h.
    let g = c.args in
    let ws = words_by g.op g.a.now g.b.now in
    let first = first_from_Range _ _ _ c.find.result (λ k. get_or ws k 0 ≡ 0 → ⊥) (λ k. get_or ws k 0 ≡ 0) c.find.ensures.ran
    (λ x q t. search (rules, tests)) (λ x q t. search (rules, tests)) in
    let found = rw c.in_ok-k.was at first in
    let eights = eights_zero _ _ _ _ c.zero_eights.ensures in
    let zero : Alike ws 0 c.zero_eights.result c.in_ok-k.k = record { at = λ k a b. found.3 k a b } in
    next_later _ (by_fit _ _ _) (clear_on _ (by_fit _ _ _) h (omega (arith, eights.0, found.0)) (alike_join eights.1 zero (omega arith)))
    c.word_at.ensures (λ z. found.2 (sym c.word_at.ensures ∙ z)) c.trailing_zeros.ensures
