-- The digits of x are put at a place; the answer is the place after them.
use mathlib.Core.Path.{ap}
use Prim.Native.Nat.{ℕ, ◌+◌}
use native.Mathlib.Omega.{arith}
use Rattle.print.proofs.put_number.Goals as goal

pub digits-requires : goal.digits-requires
digits-requires c = c.requires.0

pub overflow_add-end : goal.overflow_add-end
overflow_add-end c = omega (arith, c.requires.1, c.digits.ensures)

pub put_digits-requires : goal.put_digits-requires
put_digits-requires c = (omega (arith, c.digits.ensures), omega (arith, c.requires.1, c.digits.ensures))

pub returns : goal.returns
returns c = record { next = ap (λ (d : ℕ). c.args.at + d) c.digits.ensures; leaves = c.put_digits.ensures }
