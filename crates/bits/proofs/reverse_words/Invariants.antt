-- Bit i goes to the length less i less 1. Loop: words below `lo` and as many at the end are the mirrored ones of the other end, those between as they were.
use Prim.Native.Nat.{suc, ◌-◌}
use lib.ListN.{length, get_or}
use Rattle.word.specs.Words.{mirrored}
use Rattle.word.proofs.Ends.{Closing}
use Rattle.bits.proofs.reverse_words.Given as goal

abbrev pub invariant-loop-lo : goal.invariant-loop-lo
invariant-loop-lo l = Closing l.initial.words (λ k. mirrored 64 (get_or l.initial.words (length l.initial.words - suc k) 0)) l.lo (length l.initial.words - l.lo) l.words
