-- Whether the operation makes only zero words: behind the eights that are, each word up to the end is asked.
use Rattle.std.proofs.Common.{rules, ◌≡◌, get_or, refl}
use Rattle.std.proofs.lemmas.Iterator.{YieldsList-from_range, cases_from_all}
use borrow.Author.Tests.{tests}
use Rattle.pairs.specs.Pairs.{words_by}
use Rattle.pairs.proofs.Scans.{zero_from_all}
use Rattle.pairs.proofs.is_zero.Goals as goal

pub returns : goal.returns
returns c =
    let g = c.args in
    let ws = words_by g.op g.a.now g.b.now in
    zero_from_all _ _ _ _ _ _ _ c.zero_eights.ensures c.end_of-end.ensures
    (cases_from_all _ _ c.all.result (λ k. get_or ws k 0 ≡ 0) (λ k. get_or ws k 0 ≡ 0 → ⊥) c.all.ensures.ran (YieldsList-from_range _ _ _ refl refl)
    (λ x q t. search (rules, tests)) (λ x q t. search (rules, tests)))
