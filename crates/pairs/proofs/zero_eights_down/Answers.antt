-- Every word made from the answer on, below `from`, is 0. Loop: the last i eights of words made below `from` are 0.
use native.Mathlib.Omega.{arith}
use Rattle.arch.proofs.Scans.{alike_none, alike_join, alike_to}
use Rattle.pairs.proofs.zero_eights_down.Goals as goal

pub returns-then-from-min : goal.returns-then-from-min
returns-then-from-min c = (omega arith, alike_none _ _ _ _ (omega arith))

pub loop-i-init : goal.loop-i-init
loop-i-init c = alike_none _ _ _ _ (omega arith)

pub returns-then-some_in_eight-ne0 : goal.returns-then-some_in_eight-ne0
returns-then-some_in_eight-ne0 c = (omega arith, c.loop-i.invariant)

pub loop-i-preserved : goal.loop-i-preserved
loop-i-preserved c =
    alike_to _ _ (alike_join (c.some_in_eight.ensures.0 c.if-some_in_eight-ne0.false) c.loop-i.invariant (omega arith)) (omega arith) (omega arith)

pub returns : goal.returns
returns c = (omega arith, alike_to _ _ c.loop-i.invariant (omega arith) (omega arith))
