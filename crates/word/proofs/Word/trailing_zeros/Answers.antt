-- The least set place; 64 where none is set.
use Rattle.std.proofs.Common.{arith}
use lib.Count.{trailing_le}
use Rattle.word.proofs.Words.{trailing_least}
use Rattle.word.proofs.Word.trailing_zeros.Goals as goal

pub overflow_cast-result : goal.overflow_cast-result
overflow_cast-result c = omega (arith, trailing_le 64 c.args.x)

pub returns : goal.returns
returns c = trailing_least 64 c.args.x
