-- The places of x but the least: those that x and x - 1, wrapped, have in common.
use Rattle.std.proofs.Common.{arith}
use Rattle.word.proofs.Words.{clear_lowest}
use Rattle.word.proofs.Word.clear_lowest_set.Goals as goal

pub returns : goal.returns
returns c = clear_lowest 64 _ _ (omega arith) (omega arith) (omega arith)
