-- The length of the bitmap's text. Loop: `at` is the length of the text of the runs before `run`, and what follows is the text of the others.
use Prim.Native.Nat.{◌-◌, ◌*◌}
use Rattle.print.specs.Held.{bits_of}
use Rattle.print.proofs.Printing.{PrintingTo}
use Rattle.print.proofs.Held.text_len.Given as goal

abbrev pub invariant-loop-run : goal.invariant-loop-run
invariant-loop-run l = PrintingTo l.style (bits_of l.self) (64 * l.self.bitmap.count) l.at l.run

abbrev pub decreases-loop-run : goal.decreases-loop-run
decreases-loop-run l = 64 * l.self.bitmap.count - l.run.low
