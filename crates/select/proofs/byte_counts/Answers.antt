-- Byte k of the answer is the number of set bits of byte k of x; no step borrows or overflows.
use native.Mathlib.Omega.{arith}
use Rattle.select.proofs.Counted.{paired, added-le, no_wrap, counted}
use Rattle.select.proofs.byte_counts.Goals as goal

pub overflow_sub-s : goal.overflow_sub-s
overflow_sub-s c = no_wrap c.args.x c.ranges.x.fits

pub overflow_add-s : goal.overflow_add-s
overflow_add-s c = omega (arith, added-le (paired c.args.x))

pub overflow_add-result : goal.overflow_add-result
overflow_add-result c = omega (arith, added-le (paired c.args.x))

pub returns : goal.returns
returns c = counted c.args.x c.ranges.x.fits
