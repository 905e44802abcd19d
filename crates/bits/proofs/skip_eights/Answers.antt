-- The set bits of the words before `at` and `left` make up r. Loop: so they do behind every eight that is passed.
use native.Mathlib.Omega.{arith}
use Rattle.bits.proofs.Ranks.{pass_none, pass_eight}
use Rattle.bits.proofs.skip_eights.Goals as goal

pub loop-k-init : goal.loop-k-init
loop-k-init c = pass_none _ _

pub loop-k-preserved : goal.loop-k-preserved
loop-k-preserved c = pass_eight _ _ _ _ _ _ c.loop-k.invariant c.as_chunks.ensures.front (omega (arith, c.as_chunks.ensures.front_len)) (omega arith) c.count_set_bits-c.ensures c.if-left-c.false
