-- 64 less one more than the highest set place; 64 for zero.
use Rattle.std.proofs.Common.{arith}
use lib.Count.{leading_le}
use Rattle.word.proofs.Words.{leading_from}
use Rattle.word.proofs.Word.leading_zeros.Goals as goal

pub overflow_cast-result : goal.overflow_cast-result
overflow_cast-result c = omega (arith, leading_le 64 c.args.x)

pub returns : goal.returns
returns c = leading_from 64 c.args.x c.ranges.x.fits
