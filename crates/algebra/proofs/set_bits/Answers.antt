-- The members that the operation makes are counted, mod 2^64. Each loop: `sum` has those below the words that it has come to.
use Rattle.std.proofs.Common.{◌≡◌, ◌+◌, ℕ, length, get_or, refl, ap, ◌∙◌, arith}
use Rattle.arch.proofs.Counts.{count-start}
use Rattle.pairs.specs.Pairs.{word_by}
use Rattle.algebra.proofs.Counts.{below, more, more_first, more_second, rest_long, rest_at, all_below}
use Rattle.algebra.proofs.set_bits.Goals as goal

pub loop-k-init : goal.loop-k-init
loop-k-init c = count-start _

pub loop-k-preserved : goal.loop-k-preserved
loop-k-preserved c = more _ _ _ _ c.loop-k.invariant c.count_ones-sum.ensures refl c.word.ensures

pub loop-x-preserved : goal.loop-x-preserved
loop-x-preserved c =
    let a = c.args in
    let both = c.min-both.result in
    let l = c.loop-x in
    let e = rest_long a.a.now both in
    more_first _ _ _ _ l.invariant c.count_ones-sum-in-loop-x.ensures refl (omega (arith, e, c.loop-x-test.true, c.min-both.ensures))
    (c.word-in-loop-x.ensures ∙ ap (λ (x : ℕ). word_by a.op x 0) (rest_at a.a.now both l.x-index c.loop-x-test.true))
    ∙ ap (below a.op a.a.now a.b.now) (omega arith)

pub loop-y-preserved : goal.loop-y-preserved
loop-y-preserved c =
    let a = c.args in
    let both = c.min-both.result in
    let l = c.loop-y in
    let same : both ≡ length a.a.now = omega (arith, rest_long a.b.now both, c.loop-y-test.true, c.min-both.ensures) in
    more_second _ _ _ _ l.invariant c.count_ones-sum-in-loop-y.ensures refl (omega arith)
    (c.word-in-loop-y.ensures
    ∙ ap (word_by a.op 0) (rest_at a.b.now both l.y-index c.loop-y-test.true ∙ ap (λ (m : ℕ). get_or a.b.now (m + l.y-index) 0) same))
    ∙ ap (below a.op a.a.now a.b.now) (omega arith)

pub returns : goal.returns
returns c = all_below _ _ _ _ (omega (arith, rest_long c.args.b.now c.min-both.result, c.loop-y-test.false, c.min-both.ensures)) c.loop-y.invariant
