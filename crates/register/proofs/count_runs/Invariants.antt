-- How many runs there are. Loop: n runs were met, and `run` is the first of the others.
use Prim.Native.Nat.{◌-◌, ◌*◌, ◌≤◌}
use lib.ListN.{length}
use Rattle.print.specs.Held.{bits_of}
use Rattle.print.specs.Texts.{runs}
use Rattle.register.specs.Kernels.{Ahead}
use Rattle.register.proofs.count_runs.Given as goal

abbrev pub invariant-loop-run : goal.invariant-loop-run
invariant-loop-run l = Ahead (bits_of l.held) l.n l.run × (l.n ≤ length (runs (bits_of l.held)))

abbrev pub decreases-loop-run : goal.decreases-loop-run
decreases-loop-run l = 64 * l.held.bitmap.count - l.run.low
