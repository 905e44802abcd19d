-- The set bits before `at` and `left` make up r, and word `at` has more. Loop: the set bits before `at` and `left` make up r.
use native.Mathlib.Omega.{arith}
use Rattle.bits.proofs.Ranks.{pass_word}
use Rattle.bits.proofs.skip_words.Goals as goal

pub loop-at-preserved : goal.loop-at-preserved
loop-at-preserved c = pass_word _ _ _ _ _ c.loop-at.invariant (omega arith) c.count_ones-c.ensures c.if-left-c.false
