-- The n low bytes of x are at a place.
use native.Mathlib.Omega.{arith}
use Rattle.writer.proofs.Puts.{put_first, put_next}
use Rattle.writer.proofs.put.Goals as goal

pub loop-i-init : goal.loop-i-init
loop-i-init c = put_first _ _ _ _ c.requires

pub loop-i-preserved : goal.loop-i-preserved
loop-i-preserved c = put_next _ _ _ _ _ _ _ c.loop-i.invariant (omega arith)
