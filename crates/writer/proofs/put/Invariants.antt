-- The n low bytes of x are at a place. Loop: those from i on are there, the other bytes as they were, and `left` is x without them.
use Rattle.writer.proofs.Puts.{Putting}
use Rattle.writer.proofs.put.Given as goal

abbrev pub invariant-loop-i : goal.invariant-loop-i
invariant-loop-i l = Putting l.initial.buffer l.at l.n l.x l.buffer l.left l.i
