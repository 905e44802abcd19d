-- The text of the bitmap is put at the front, the bytes past it as they were. Loop: the `at` bytes of the runs before `run` are put, the others as they were.
use Prim.Native.Nat.{◌-◌, ◌*◌}
use Rattle.print.specs.Held.{bits_of}
use Rattle.print.proofs.Printing.{Shown}
use Rattle.print.proofs.Held.print.Given as goal

abbrev pub invariant-loop-run : goal.invariant-loop-run
invariant-loop-run l = Shown l.style (bits_of l.self) (64 * l.self.bitmap.count) l.initial.out l.at l.run l.out

abbrev pub decreases-loop-run : goal.decreases-loop-run
decreases-loop-run l = 64 * l.self.bitmap.count - l.run.low
