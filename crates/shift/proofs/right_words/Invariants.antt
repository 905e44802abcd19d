-- Bit i goes to i - k: all out, then whole words, then odd bits. Loop: the words below i are the moved ones, from i on they are as they were.
use Rattle.word.specs.Places.{member, word_of}
use Rattle.word.proofs.Sweep.{Swept}
use Rattle.shifts.specs.Shifts.{moved_down}
use Rattle.shift.proofs.right_words.Given as goal

abbrev pub invariant-loop-i : goal.invariant-loop-i
invariant-loop-i l = Swept l.initial.words (word_of (moved_down l.k (member l.initial.words))) 0 l.i l.words
