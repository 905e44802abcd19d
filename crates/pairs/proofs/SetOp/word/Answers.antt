-- Each of the four operations, one by one: every place has what the truth table makes of the two bits.
use native.Mathlib.Omega.{arith}
use Rattle.pairs.proofs.Tables.{by_and, by_andnot, by_or, by_xor}
use Rattle.pairs.proofs.SetOp.word.Goals as goal

pub returns-in-And : goal.returns-in-And
returns-in-And c = rw c.in-And.is (by_and _ _ (omega arith) (omega arith))

pub returns-in-AndNot : goal.returns-in-AndNot
returns-in-AndNot c = rw c.in-AndNot.is (by_andnot _ _ (omega arith) (omega arith))

pub returns-in-Or : goal.returns-in-Or
returns-in-Or c = rw c.in-Or.is (by_or _ _ (omega arith) (omega arith))

pub returns-in-Xor : goal.returns-in-Xor
returns-in-Xor c = rw c.in-Xor.is (by_xor _ _ (omega arith) (omega arith))
