-- Loop: `some` is 0 exactly where the words made from i on, below i + k, are 0.
use Prim.Native.Nat.{◌+◌}
use Rattle.pairs.specs.Pairs.{words_by}
use Rattle.pairs.proofs.Scans.{Joined}
use Rattle.pairs.proofs.some_in_eight.Given as goal

abbrev pub invariant-loop-k : goal.invariant-loop-k
invariant-loop-k l = Joined (words_by l.op l.a l.b) l.i (l.i + l.k) l.some
