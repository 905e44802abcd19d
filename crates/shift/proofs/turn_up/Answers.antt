-- Each bit goes `up` places up, on from the start past the end; no change for 0. Loop: the words above i are turned, up to i they are as they were.
use mathlib.Core.Path.{◌∙◌}
use native.Mathlib.Omega.{arith}
use Rattle.shift.proofs.Turns.{turn_none, up_step, up_last}
use Rattle.shift.proofs.Steps.{funneled_is}
use Rattle.shift.proofs.turn_up.Goals as goal

pub returns-then-up-eq0 : goal.returns-then-up-eq0
returns-then-up-eq0 c = turn_none _ (search arith) _ (omega arith)

pub loop-i-preserved : goal.loop-i-preserved
loop-i-preserved c = (
  omega arith,
  up_step _ (search arith) _ _ _ _
      c.requires.1 c.loop-i.invariant.1 (omega arith)
      (omega arith) (c.step.ensures ∙ funneled_is _ _ _ _ _ (omega arith) (omega arith)),
)

pub returns : goal.returns
returns c =
    up_last _ (search arith) _ _ _ _
    c.requires.1 c.loop-i.invariant.1 (omega arith) (omega arith)
    (c.step-2.ensures ∙ funneled_is _ _ _ _ _ (omega arith) (omega arith))
