-- Loop: the words from piece k on are moved, and those below are as they were.
use Prim.Native.Nat.{◌+◌, ◌-◌, ◌*◌, min}
use Rattle.moves.specs.Kernels.{Moved}
use Rattle.moves.proofs.move_up.Given as goal

abbrev pub invariant-loop-k : goal.invariant-loop-k
invariant-loop-k l = Moved (min (l.k * 1024) l.n) (min (l.k * 1024) l.n + l.whole) (l.n - min (l.k * 1024) l.n) l.initial.words l.words
