-- Every bit flips. Loop: the words below the index are all ones less what they were, the others are as they were.
use Prim.Native.Nat.{◌-◌, ◌^◌}
use lib.ListN.{get_or}
use Rattle.word.proofs.Sweep.{Swept}
use Rattle.word.proofs.Lists.{FitTo}
use Rattle.bits.proofs.invert_words.Given as goal

abbrev pub invariant-loop-x : goal.invariant-loop-x
invariant-loop-x l = FitTo l.initial.words l.x-index × Swept l.initial.words (λ m. (2 ^ 64 - 1) - get_or l.initial.words m 0) 0 l.x-index l.words
