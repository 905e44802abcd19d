-- Each bit goes `down` places down, on from the end past the start; no change for 0. Loop: the words below i are turned, from i on they are as they were.
use Prim.Native.Nat.{◌*◌}
use lib.ListN.{length}
use Rattle.word.specs.Places.{member, word_of}
use Rattle.word.proofs.Sweep.{Swept}
use Rattle.shifts.specs.Shifts.{turned_down}
use Rattle.shift.proofs.turn_down.Given as goal

abbrev pub invariant-loop-i : goal.invariant-loop-i
invariant-loop-i l = Swept l.initial.words (word_of (turned_down (64 * length l.initial.words) l.down (member l.initial.words))) 0 l.i l.words
