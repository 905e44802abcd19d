-- x over 2^n: 0 where n is 64 or more, else the shift.
use Rattle.std.proofs.Common.{arith}
use Rattle.word.proofs.Words.{down_out}
use Rattle.word.proofs.moved_down.Goals as goal

pub returns-then-n-ge-BITS : goal.returns-then-n-ge-BITS
returns-then-n-ge-BITS c = down_out 64 c.args.x c.args.n (omega arith) (omega arith)
