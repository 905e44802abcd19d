-- All lines are put. Loop: the first k lines stand in the buffer, and `run` is the next to be printed.
use Rattle.print.specs.Held.{bits_of}
use Rattle.register.proofs.Printing.{Printing}
use Rattle.register.proofs.put_lines.Given as goal

abbrev pub invariant-loop-k : goal.invariant-loop-k
invariant-loop-k l = Printing (bits_of l.held) l.initial.out l.k l.run l.out
