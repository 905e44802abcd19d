-- The words are those of the bits from `at` on. Loop: the first j of them are, the others are as they were.
use Rattle.word.specs.Places.{member, word_of}
use Rattle.word.proofs.Sweep.{Swept}
use Rattle.shifts.specs.Shifts.{moved_down}
use Rattle.shape.proofs.lower_into.Given as goal

abbrev pub invariant-loop-j : goal.invariant-loop-j
invariant-loop-j l = Swept l.initial.tail (word_of (moved_down l.at (member l.words))) 0 l.j l.tail
