-- The set bits of the words before `at` and `left` make up r. Loop: so they do behind every eight that is passed.
use Prim.Native.Nat.{◌*◌}
use Rattle.bits.specs.Kernels.{Passing}
use Rattle.bits.proofs.skip_eights.Given as goal

abbrev pub invariant-loop-k : goal.invariant-loop-k
invariant-loop-k l = Passing l.words l.r (8 * l.k) l.left
