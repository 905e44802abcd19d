-- The place after a run: past a range where it is long enough, else past each number. Loop: `p` is the place after the numbers before `x`.
use mathlib.Core.Path.{refl, sym, ◌∙◌}
use native.Mathlib.Omega.{arith}
use borrow.Author.Tests.{leb-true, leb-false}
use Rattle.print.proofs.Pieces.{single-length, counted, whole-place, whole_short, counting_start, counting_short, counting_more, counting_end}
use Rattle.print.proofs.run_end.Goals as goal

pub is_range-requires : goal.is_range-requires
is_range-requires c = c.requires.1

pub overflow_add-result : goal.overflow_add-result
overflow_add-result c =
    omega (
      arith,
      c.requires.1.some,
      c.requires.1.limit,
      c.requires.2,
      whole_short _ c.requires.0 c.args.at _ _ c.requires.1.some
          c.requires.1.limit (leb-true _ _ (sym c.is_range.ensures ∙ c.if-is_range.true)) _ _ c.gap_len.ensures refl,
    )

pub overflow_sub-run : goal.overflow_sub-run
overflow_sub-run c = omega (arith, c.requires.1.some)

pub pair_len-requires : goal.pair_len-requires
pair_len-requires c = (
  c.requires.0,
  omega (arith, c.requires.0.shortest, leb-true _ _ (sym c.is_range.ensures ∙ c.if-is_range.true)),
  omega (arith, c.requires.1.limit),
)

pub overflow_add-result-then-is_range : goal.overflow_add-result-then-is_range
overflow_add-result-then-is_range c =
    omega (
      arith,
      c.requires.1.some,
      c.requires.1.limit,
      c.requires.2,
      whole_short _ c.requires.0 c.args.at _ _
          c.requires.1.some c.requires.1.limit (leb-true _ _ (sym c.is_range.ensures ∙ c.if-is_range.true)) _ _
          c.gap_len.ensures c.pair_len.ensures,
    )

pub returns-then-is_range : goal.returns-then-is_range
returns-then-is_range c =
    whole-place _ c.requires.0 _ _ _ c.requires.1.some
    c.requires.1.limit (leb-true _ _ (sym c.is_range.ensures ∙ c.if-is_range.true)) _ _ c.gap_len.ensures c.pair_len.ensures

pub loop-x-init : goal.loop-x-init
loop-x-init c = counting_start _ c.requires.0 _ _ _ c.requires.1.some c.requires.1.limit c.requires.2

pub overflow_add-p : goal.overflow_add-p
overflow_add-p c =
    omega (
      arith,
      c.requires.1.limit,
      c.loop-x-test.true,
      c.loop-x.invariant.short,
      counting_short _ c.requires.0 c.args.at _ _
          c.requires.1.some c.requires.1.limit _ _
          c.loop-x.invariant c.loop-x-test.true _ _
          c.gap_len-in-loop-x.ensures refl,
    )

pub overflow_add-p-in-loop-x : goal.overflow_add-p-in-loop-x
overflow_add-p-in-loop-x c =
    omega (
      arith,
      c.requires.1.limit,
      c.loop-x-test.true,
      c.loop-x.invariant.short,
      counting_short _ c.requires.0 c.args.at _ _
          c.requires.1.some
          c.requires.1.limit _ _ c.loop-x.invariant
          c.loop-x-test.true _ _ c.gap_len-in-loop-x.ensures (c.digits.ensures ∙ single-length _ _),
    )

pub digits-requires : goal.digits-requires
digits-requires c = counted _ c.requires.0 _ (omega (arith, c.requires.1.limit, c.loop-x-test.true))

pub loop-x-preserved : goal.loop-x-preserved
loop-x-preserved c =
    counting_more _ c.requires.0 _ _ _
    c.requires.1.some c.requires.1.limit _ _
    c.loop-x.invariant c.loop-x-test.true _ _ c.gap_len-in-loop-x.ensures (c.digits.ensures ∙ single-length _ _)

pub returns : goal.returns
returns c =
    counting_end _ c.requires.0 _ _ _ c.requires.1.some
    c.requires.1.limit _ _ c.loop-x.invariant (leb-false _ _ (sym c.is_range.ensures ∙ c.if-is_range.false)) c.loop-x-test.false
