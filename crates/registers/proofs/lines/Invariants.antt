-- Each line takes a byte or more.
use Rattle.std.proofs.Common.{length}
use Rattle.registers.proofs.lines.Given as goal

abbrev pub decreases-loop-rest : goal.decreases-loop-rest
decreases-loop-rest g l = length l.rest
