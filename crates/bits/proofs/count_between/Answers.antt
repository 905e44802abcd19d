-- The set bits from i on, below `end`, are counted: no bits, then one word, then an end between two words, then a part of the last word too.
use native.Mathlib.Omega.{arith}
use Rattle.word.specs.Places.{member}
use Rattle.bits.proofs.Counts.{between_none, range-one, range_even, range_odd, most-le, odd_le}
use Rattle.bits.proofs.count_between.Goals as goal

pub returns-then-i-end : goal.returns-then-i-end
returns-then-i-end c = between_none (member c.args.words.now) _ _ (omega arith)

pub returns-then-first-last : goal.returns-then-first-last
returns-then-first-last c =
    range-one _ c.args.i c.args.end (omega arith) _ c.if-first-last.true c.count_places.ensures

pub overflow_add-result : goal.overflow_add-result
overflow_add-result c =
    omega (
      arith,
      most-le c.args.words.now
          c.args.i
          c.args.end (omega arith) (omega arith) (omega arith)
          c.if-first-last.false _ _ c.count_places-head.ensures
          c.count_set_bits-body.ensures,
    )

pub returns-then-end-eq0 : goal.returns-then-end-eq0
returns-then-end-eq0 c =
    range_even c.args.words.now
    c.args.i
    c.args.end (omega arith) (omega arith) (omega arith)
    c.if-first-last.false _ _ c.count_places-head.ensures
    c.count_set_bits-body.ensures c.if-end-eq0.true

pub overflow_add-result-2 : goal.overflow_add-result-2
overflow_add-result-2 c =
    omega (
      arith,
      most-le c.args.words.now
          c.args.i
          c.args.end (omega arith) (omega arith) (omega arith)
          c.if-first-last.false _ _ c.count_places-head.ensures
          c.count_set_bits-body.ensures,
    )

pub overflow_add-result-3 : goal.overflow_add-result-3
overflow_add-result-3 c =
    omega (
      arith,
      odd_le c.args.words.now
          c.args.i
          c.args.end (omega arith) (omega arith) (omega arith)
          c.if-first-last.false _ _
          c.count_places-head.ensures c.count_set_bits-body.ensures _
          c.count_places-2.ensures,
    )

pub returns : goal.returns
returns c =
    range_odd c.args.words.now
    c.args.i
    c.args.end (omega arith) (omega arith) (omega arith)
    c.if-first-last.false _ _
    c.count_places-head.ensures c.count_set_bits-body.ensures _
    c.count_places-2.ensures
