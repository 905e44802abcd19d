-- The first word other than x with its index, or nothing. Loop: every word below i is x.
use Rattle.std.proofs.Common.{arith}
use Rattle.arch.proofs.Scans.{other_at, other_none, found_at, found_none}
use Rattle.arch.proofs.first_other.Goals as goal

pub returns-then-word-x : goal.returns-then-word-x
returns-then-word-x c = found_at _ _ _ (other_at _ _ _ c.loop-i.invariant (omega arith) c.if-word-x.true) (omega arith)

pub returns : goal.returns
returns c = found_none _ _ _ (other_none _ _ _ c.loop-i.invariant (omega arith)) (omega arith)
