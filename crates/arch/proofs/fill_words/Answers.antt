-- The words from a on, below e, become x, as far as there are words; where none are there nothing changes.
use Rattle.std.proofs.Common.{arith}
use Rattle.word.proofs.Sweep.{sweep_none}
use Rattle.arch.proofs.Regions.{filled_is, filled_part}
use Rattle.arch.proofs.fill_words.Goals as goal

pub returns-then-a-end : goal.returns-then-a-end
returns-then-a-end c = filled_part _ _ _ _ _ _ c.min-end.ensures c.if-a-end.true (c.fill.ensures.after (λ y e. e))

pub returns-else-a-end : goal.returns-else-a-end
returns-else-a-end c = filled_is _ _ _ _ _ _ (sweep_none _ _ _) (omega arith) (omega arith)
