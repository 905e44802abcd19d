-- Loop: the words of k pieces are moved, as far as there are so many, and the words above are as they were.
use Prim.Native.Nat.{◌*◌, min}
use Rattle.moves.specs.Kernels.{Moved}
use Rattle.moves.proofs.move_down.Given as goal

abbrev pub invariant-loop-k : goal.invariant-loop-k
invariant-loop-k l = Moved l.whole 0 (min (l.k * 1024) l.n) l.initial.words l.words
