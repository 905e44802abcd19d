-- How many digits x has: those of the first ten places, and those that stand before them.
use Prim.Native.Nat.{◌/◌}
use native.Mathlib.Omega.{arith}
use Rattle.print.proofs.Decimals.{digits-left}
use Rattle.print.proofs.Pieces.{ten_digits}
use Rattle.print.proofs.decimal_len.Goals as goal

pub overflow_add-result : goal.overflow_add-result
overflow_add-result c = omega (arith, c.digits-2.ensures, ten_digits (c.args.x / 10_000_000_000) (omega arith))

pub returns : goal.returns
returns c = omega (arith, c.digits-2.ensures, digits-left 10 c.args.x c.if-x-lt10000000000.false)
