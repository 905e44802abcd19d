-- x times 2^n, mod 2^64: 0 where n is 64 or more, else the shift.
use Rattle.std.proofs.Common.{arith}
use Rattle.word.proofs.Words.{up_out}
use Rattle.word.proofs.moved_up.Goals as goal

pub returns-then-n-ge-BITS : goal.returns-then-n-ge-BITS
returns-then-n-ge-BITS c = up_out 64 c.args.x c.args.n (omega arith)
