-- 10 where one of n records is cut, then 11 where bytes remain, else a pass. Loop: after some records, what the others from `at` on come to decides.
use Rattle.frames.proofs.Walks.{Walking}
use Rattle.frames.proofs.records_fault.Given as goal

abbrev pub invariant-loop : goal.invariant-loop
invariant-loop l = Walking l.sheet l.n l.at l.counter
