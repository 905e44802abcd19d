-- The set bits before `at` and `left` make up r, and word `at` has more. Loop: the set bits before `at` and `left` make up r.
use Rattle.bits.specs.Kernels.{Passing}
use Rattle.bits.proofs.skip_words.Given as goal

abbrev pub invariant-loop-at : goal.invariant-loop-at
invariant-loop-at l = Passing l.words l.r l.at l.left
