-- A run is put: a range where it is long enough, else each number; the answer is the place after it. Loop: the numbers before `x` are put, up to `p`.
use Rattle.print.proofs.Pieces.{Putting}
use Rattle.print.proofs.put_run.Given as goal

abbrev pub invariant-loop-x : goal.invariant-loop-x
invariant-loop-x l = Putting l.style l.at l.fn.run.low l.fn.run.end l.initial.out l.x l.p l.out
