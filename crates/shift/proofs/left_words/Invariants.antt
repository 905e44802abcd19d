-- Bit i goes to i + k: all out, then whole words, then odd bits. Loop: the words above i are the moved ones, up to i they are as they were.
use Prim.Native.Nat.{◌+◌, ◌≤◌}
use lib.ListN.{length}
use Rattle.word.specs.Places.{member, word_of}
use Rattle.word.proofs.Sweep.{Swept}
use Rattle.shifts.specs.Shifts.{moved_up}
use Rattle.shift.proofs.left_words.Given as goal

abbrev pub invariant-loop-i : goal.invariant-loop-i
invariant-loop-i l = (l.whole + 1 ≤ l.i) × Swept l.initial.words (word_of (moved_up l.k (member l.initial.words))) l.i (length l.initial.words) l.words
