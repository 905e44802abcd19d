-- The place after a run: past a range where it is long enough, else past each number. Loop: `p` is the place after the numbers before `x`.
use Rattle.print.proofs.Pieces.{Counting}
use Rattle.print.proofs.run_end.Given as goal

abbrev pub invariant-loop-x : goal.invariant-loop-x
invariant-loop-x l = Counting l.style l.at l.fn.run.low l.fn.run.end l.x l.p
