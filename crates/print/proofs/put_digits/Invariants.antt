-- The digits of x are put up to a place. Loop: those from p on are put, and y has the others.
use mathlib.Core.List.{List}
use Prim.Native.Nat.{ℕ, ◌-◌}
use Rattle.print.proofs.Buffer.{PuttingDigits}
use Rattle.print.proofs.put_digits.Given as goal

abbrev pub invariant-loop-p : goal.invariant-loop-p
invariant-loop-p l = (s : List ℕ) × PuttingDigits l.at l.x l.initial.out l.out l.p l.y s

abbrev pub decreases-loop-p : goal.decreases-loop-p
decreases-loop-p l = l.p - l.at
