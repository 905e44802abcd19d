-- The set places below 64 are counted, and the count fits: it is at most 64.
use Rattle.std.proofs.Common.{arith}
use lib.Count.{ones-le}
use Rattle.word.proofs.Words.{ones_count}
use Rattle.word.proofs.Word.count_ones.Goals as goal

pub overflow_cast-result : goal.overflow_cast-result
overflow_cast-result c = omega (arith, ones-le 64 c.args.x c.ranges.x.fits)

pub returns : goal.returns
returns c = ones_count 64 c.args.x c.ranges.x.fits
