-- The n low bytes of a number of two parts are at a place: the last eight from the low part, those before them from the high one.
use native.Mathlib.Omega.{arith}
use Rattle.writer.proofs.Bytes.{put_parts}
use Rattle.writer.proofs.put_parts.Goals as goal

pub returns : goal.returns
returns c =
    put_parts _ _ (omega arith) _ _ _ _ _ _ c.max-over.ensures c.put.ensures
    c.put-2.ensures
