-- Each bit goes `up` places up, on from the start past the end; no change for 0. Loop: the words above i are turned, up to i they are as they were.
use Prim.Native.Nat.{◌*◌, ◌≤◌}
use lib.ListN.{length}
use Rattle.word.specs.Places.{member, word_of}
use Rattle.word.proofs.Sweep.{Swept}
use Rattle.shifts.specs.Shifts.{turned_up}
use Rattle.shift.proofs.turn_up.Given as goal

abbrev pub invariant-loop-i : goal.invariant-loop-i
invariant-loop-i l = (1 ≤ l.i) × Swept l.initial.words (word_of (turned_up (64 * length l.initial.words) l.up (member l.initial.words))) l.i (length l.initial.words) l.words
