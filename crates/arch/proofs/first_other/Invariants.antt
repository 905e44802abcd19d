-- The first word other than x with its index, or nothing. Loop: every word below i is x.
use Rattle.arch.specs.Scans.{Alike}
use Rattle.arch.proofs.first_other.Given as goal

abbrev pub invariant-loop-i : goal.invariant-loop-i
invariant-loop-i l = Alike l.words l.x 0 l.i
