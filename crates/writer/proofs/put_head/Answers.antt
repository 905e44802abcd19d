-- R is one more, and the first byte and the payload's length are at the end of the sheet, the other bytes as they were.
use native.Mathlib.Omega.{arith}
use lib.ListN.{length, length-set}
use Rattle.writer.proofs.Places.{put_head}
use mathlib.Core.Path.{ap, ◌∙◌}
use lib.Seq.{length-sets}
use Rattle.writer.proofs.put_head.Goals as goal

pub overflow_add-count : goal.overflow_add-count
overflow_add-count c = let known = c.slice_known-1.given in omega (arith, known 2, known 3)

pub put-requires-2 : goal.put-requires-2
put-requires-2 c = simp length-set (omega arith)

pub shape_of-buffer : goal.shape_of-buffer
shape_of-buffer c = ap length c.put-2.ensures ∙ simp (length-sets, length-set) (ap length c.put.ensures ∙ simp length-sets)

pub returns : goal.returns
returns c =
    put_head _ _ _ _ _ _ _ c.record_count-count.ensures c.put.ensures
    c.put-2.ensures
