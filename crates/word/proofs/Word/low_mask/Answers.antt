-- The places below n are set: all of them where n is 64 or more, else those that moving all ones up by n leaves clear.
use Rattle.std.proofs.Common.{arith}
use Rattle.word.proofs.Words.{low_mask_lem, all_mask}
use Rattle.word.proofs.Word.low_mask.Goals as goal

pub returns-then-n-ge-BITS : goal.returns-then-n-ge-BITS
returns-then-n-ge-BITS c = all_mask 64 c.args.n (omega arith)

pub returns-else-n-ge-BITS : goal.returns-else-n-ge-BITS
returns-else-n-ge-BITS c = low_mask_lem 64 c.args.n (omega arith)
