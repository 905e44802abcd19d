-- Only place i mod 64 is set: 1 moved up that far is the word of that place alone.
use Rattle.std.proofs.Common.{◌%◌}
use Rattle.word.proofs.Words.{single_is}
use Rattle.word.proofs.Word.bit.Goals as goal

pub returns : goal.returns
returns c = single_is 64 (c.args.i % 64)
