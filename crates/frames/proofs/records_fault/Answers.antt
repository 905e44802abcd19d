-- 10 where one of n records is cut, then 11 where bytes remain, else a pass.
use native.Mathlib.Omega.{arith}
use Rattle.frames.proofs.Walks.{goes_on, gets_10, gets_11, gets_none}
use Rattle.frames.proofs.records_fault.Goals as goal

pub returns-in_default : goal.returns-in_default
returns-in_default c = gets_10 _ _ _ _ c.loop.invariant _ (omega arith) c.record_end.ensures c.in_default.is

pub loop-preserved : goal.loop-preserved
loop-preserved c = goes_on _ _ _ _ c.loop.invariant _ _ (omega arith) c.record_end.ensures c.in-Some.is

pub returns-then-at-sheet : goal.returns-then-at-sheet
returns-then-at-sheet c = gets_11 _ _ _ _ c.loop.invariant (omega arith) (omega arith)

pub returns : goal.returns
returns c = gets_none _ _ _ _ c.loop.invariant (omega arith) (omega arith)
