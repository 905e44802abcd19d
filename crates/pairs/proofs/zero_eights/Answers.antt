-- The index behind the whole eights of zeros made from `from` on, where both slices have them. Loop: the words made from `from` on, in i eights, are 0.
use native.Mathlib.Omega.{arith}
use Rattle.arch.proofs.Scans.{alike_none, alike_join, alike_to}
use Rattle.pairs.proofs.Tables.{by_length}
use Rattle.pairs.proofs.Scans.{eights_end, eights_other}
use Rattle.pairs.proofs.zero_eights.Goals as goal

pub loop-i-init : goal.loop-i-init
loop-i-init c = alike_none _ _ _ _ (omega arith)

pub returns-then-some_in_eight-ne0 : goal.returns-then-some_in_eight-ne0
returns-then-some_in_eight-ne0 c =
    let g = c.args in
    eights_other _ _ _ _ (omega arith) (omega arith) (omega arith) (omega (arith, by_length g.op g.a.now g.b.now)) c.loop-i.invariant
    (λ s. c.if-some_in_eight-ne0.true (c.some_in_eight.ensures.1 s))

pub loop-i-preserved : goal.loop-i-preserved
loop-i-preserved c =
    alike_to _ _ (alike_join c.loop-i.invariant (c.some_in_eight.ensures.0 c.if-some_in_eight-ne0.false) (omega arith)) (omega arith) (omega arith)

pub returns : goal.returns
returns c =
    let g = c.args in
    eights_end _ _ _ _ (omega arith) (omega arith) (omega arith) (omega (arith, by_length g.op g.a.now g.b.now))
    (alike_to _ _ c.loop-i.invariant (omega arith) (omega arith)) (omega arith)
