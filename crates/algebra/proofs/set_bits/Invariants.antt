-- The members that the operation makes are counted, mod 2^64. Each loop: `sum` has those below the words that it has come to.
use Rattle.std.proofs.Common.{◌≡◌, ◌+◌, length}
use Rattle.algebra.proofs.Counts.{below}
use Rattle.algebra.proofs.set_bits.Given as goal

abbrev pub invariant-loop-k : goal.invariant-loop-k
invariant-loop-k l = l.sum ≡ below l.op l.a l.b l.k

abbrev pub invariant-loop-x : goal.invariant-loop-x
invariant-loop-x l = l.sum ≡ below l.op l.a l.b (l.both + l.x-index)

abbrev pub invariant-loop-y : goal.invariant-loop-y
invariant-loop-y l = l.sum ≡ below l.op l.a l.b (length l.a + l.y-index)
