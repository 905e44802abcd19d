-- Each bit goes `down` places down, on from the end past the start; no change for 0. Loop: the words below i are turned, from i on they are as they were.
use mathlib.Core.Path.{◌∙◌}
use native.Mathlib.Omega.{arith}
use Rattle.shift.proofs.Turns.{sunk_none, down_step, down_last}
use Rattle.shift.proofs.Steps.{funneled_is}
use Rattle.shift.proofs.turn_down.Goals as goal

pub returns-then-down-eq0 : goal.returns-then-down-eq0
returns-then-down-eq0 c = sunk_none _ (search arith) _ (omega arith)

pub loop-i-preserved : goal.loop-i-preserved
loop-i-preserved c =
    down_step _ (search arith) _ _ _ _
    c.requires.1 c.loop-i.invariant (omega arith)
    (c.step.ensures ∙ funneled_is _ _ _ _ _ (omega arith) (omega arith))

pub returns : goal.returns
returns c =
    down_last _ (search arith) _ _ _ _ _
    c.requires.1 c.loop-i.invariant (omega arith) (omega arith)
    (c.step-2.ensures ∙ funneled_is _ _ _ _ _ (omega arith) (omega arith))
