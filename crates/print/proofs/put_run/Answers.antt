-- A run is put: a range where it is long enough, else each number; the answer is the place after it. Loop: the numbers before `x` are put, up to `p`.
use mathlib.Core.Path.{sym, ◌∙◌}
use native.Mathlib.Omega.{arith}
use borrow.Author.Tests.{leb-true, leb-false}
use Rattle.print.proofs.Pieces.{whole_room, whole_puts, putting_first, putting_size, putting_done, number-room, putting_number}
use Rattle.print.proofs.Buffer.{puts_long}
use Rattle.print.proofs.put_run.Goals as goal

pub is_range-requires : goal.is_range-requires
is_range-requires c = c.requires.1

pub overflow_sub-run : goal.overflow_sub-run
overflow_sub-run c = omega (arith, c.requires.1.some)

pub put_pair-requires : goal.put_pair-requires
put_pair-requires c = (
  c.requires.0,
  omega (arith, c.requires.0.shortest, leb-true _ _ (sym c.is_range.ensures ∙ c.if-is_range.true)),
  omega (arith, c.requires.1.limit),
  whole_room _ _ _ _ c.requires.1.some c.args.out.now
      c.requires.2 (leb-true _ _ (sym c.is_range.ensures ∙ c.if-is_range.true)),
)

pub shape_of-out-then-is_range : goal.shape_of-out-then-is_range
shape_of-out-then-is_range c =
    puts_long _ _ _ _ _ c.requires.2
    (whole_puts _ _ _ _ c.requires.1.some _ c.requires.2
    (leb-true _ _ (sym c.is_range.ensures ∙ c.if-is_range.true)) _ _ c.put_pair.ensures)

pub returns-then-is_range : goal.returns-then-is_range
returns-then-is_range c =
    whole_puts _ _ _ _ c.requires.1.some _
    c.requires.2 (leb-true _ _ (sym c.is_range.ensures ∙ c.if-is_range.true)) _ _ c.put_pair.ensures

pub loop-x-init : goal.loop-x-init
loop-x-init c = putting_first _ _ _ _ c.requires.1.some _ c.requires.2

pub put_single-p-requires : goal.put_single-p-requires
put_single-p-requires c = (
  c.requires.0,
  omega (arith, c.requires.1.limit, c.loop-x-test.true),
  number-room _ _ _ _ c.requires.1.some _ c.requires.2
      (leb-false _ _ (sym c.is_range.ensures ∙ c.if-is_range.false)) _ _ _ c.loop-x.invariant c.loop-x-test.true,
)

pub loop-x-preserved : goal.loop-x-preserved
loop-x-preserved c =
    putting_number _ _ _ _ c.requires.1.some _
    c.requires.2 (leb-false _ _ (sym c.is_range.ensures ∙ c.if-is_range.false)) _ _ _
    c.loop-x.invariant c.loop-x-test.true _ _ c.put_single-p.ensures

pub shape_of-out : goal.shape_of-out
shape_of-out c =
    putting_size _ _ _ _ c.requires.1.some _ c.requires.2
    (leb-false _ _ (sym c.is_range.ensures ∙ c.if-is_range.false)) _ _ _ c.loop-x.invariant

pub returns : goal.returns
returns c =
    putting_done _ _ _ _ c.requires.1.some _ c.requires.2
    (leb-false _ _ (sym c.is_range.ensures ∙ c.if-is_range.false)) _ _ _ c.loop-x.invariant c.loop-x-test.false
