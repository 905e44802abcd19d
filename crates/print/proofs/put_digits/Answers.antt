-- The digits of x are put up to a place. Loop: those from p on are put, and y has the others.
use mathlib.Core.Path.{◌≡◌, ◌∙◌}
use mathlib.Core.List.{List, []}
use native.Mathlib.Omega.{arith}
use Prim.Native.Nat.{ℕ, ◌+◌, ◌-◌, ◌%◌, ◌≤◌}
use lib.ListN.{length, length-set}
use Rattle.print.specs.Texts.{decimal}
use Rattle.print.proofs.Buffer.{putting_start, putting_place, putting_long, putting_two, putting_end, putting_last}
use Rattle.print.proofs.put_digits.Goals as goal

-- there is room for them
room : (at x end : ℕ) (out : List ℕ) → end ≡ at + length (decimal x) → end ≤ length out → at + length (decimal x) ≤ length out
room at x end out e h = omega arith

pub loop-p-init : goal.loop-p-init
loop-p-init c = ([], putting_start _ _ _ (room _ c.args.x _ c.args.out.now c.requires.0 c.requires.1) _ c.requires.0)

pub overflow_sub-p : goal.overflow_sub-p
overflow_sub-p c = c.loop-p.invariant.1.low

pub overflow_sub-out : goal.overflow_sub-out
overflow_sub-out c = omega (arith, c.loop-p-test.true)

pub bounds-out-p : goal.bounds-out-p
bounds-out-p c =
    omega (
      arith,
      c.loop-p-test.true,
      putting_place _ _ _ (room _ c.args.x _ c.args.out.now c.requires.0 c.requires.1) _ _ _ _ c.loop-p.invariant.1,
      putting_long _ _ _
          (room _ c.args.x _ c.args.out.now c.requires.0 c.requires.1) _ _ _ _ c.loop-p.invariant.1,
      (room _ c.args.x _ c.args.out.now c.requires.0 c.requires.1),
    )

pub overflow_sub-out-in-loop-p : goal.overflow_sub-out-in-loop-p
overflow_sub-out-in-loop-p c = omega (arith, c.loop-p-test.true)

pub bounds-out-p-in-loop-p : goal.bounds-out-p-in-loop-p
bounds-out-p-in-loop-p c =
    omega (
      arith,
      c.loop-p-test.true,
      putting_place _ _ _ (room _ c.args.x _ c.args.out.now c.requires.0 c.requires.1) _ _ _ _ c.loop-p.invariant.1,
      putting_long _ _ _
          (room _ c.args.x _ c.args.out.now c.requires.0 c.requires.1) _ _ _ _ c.loop-p.invariant.1,
      (room _ c.args.x _ c.args.out.now c.requires.0 c.requires.1),
      length-set c.loop-p.out
          (c.loop-p.p - 1) (48 + c.loop-p.y % 100 % 10),
    )

pub loop-p-smaller : goal.loop-p-smaller
loop-p-smaller c = omega (arith, c.loop-p-test.true)

pub loop-p-preserved : goal.loop-p-preserved
loop-p-preserved c = (_, putting_two _ _ _ (room _ c.args.x _ c.args.out.now c.requires.0 c.requires.1) _ _ _ _ c.loop-p.invariant.1 (omega (arith, c.loop-p-test.true)))

pub bounds-out-at : goal.bounds-out-at
bounds-out-at c =
    omega (
      arith,
      c.if-p-at.true,
      putting_place _ _ _ (room _ c.args.x _ c.args.out.now c.requires.0 c.requires.1) _ _ _ _ c.loop-p.invariant.1,
      putting_long _ _ _
          (room _ c.args.x _ c.args.out.now c.requires.0 c.requires.1) _ _ _ _ c.loop-p.invariant.1,
      (room _ c.args.x _ c.args.out.now c.requires.0 c.requires.1),
    )

pub shape_of-out-then-p-at : goal.shape_of-out-then-p-at
shape_of-out-then-p-at c =
    length-set c.loop-p.out c.args.at (48 + c.loop-p.y % 10)
    ∙ putting_long _ _ _ (room _ c.args.x _ c.args.out.now c.requires.0 c.requires.1) _ _ _ _ c.loop-p.invariant.1

pub returns-then-p-at : goal.returns-then-p-at
returns-then-p-at c = putting_last _ _ _ (room _ c.args.x _ c.args.out.now c.requires.0 c.requires.1) _ _ _ _ c.loop-p.invariant.1 c.if-p-at.true (omega (arith, c.loop-p-test.false))

pub shape_of-out-else-p-at : goal.shape_of-out-else-p-at
shape_of-out-else-p-at c = putting_long _ _ _ (room _ c.args.x _ c.args.out.now c.requires.0 c.requires.1) _ _ _ _ c.loop-p.invariant.1

pub returns-else-p-at : goal.returns-else-p-at
returns-else-p-at c = putting_end _ _ _ (room _ c.args.x _ c.args.out.now c.requires.0 c.requires.1) _ _ _ _ c.loop-p.invariant.1 c.if-p-at.false
