-- Bit i goes to i - k: all out, then whole words, then odd bits. Loop: the words below i are the moved ones, from i on they are as they were.
use mathlib.Core.Path.{◌∙◌}
use native.Mathlib.Omega.{arith}
use Rattle.moves.proofs.Promises.{gone_down}
use Rattle.shift.proofs.Moves.{right_step, right_last, right_out, right_moved}
use Rattle.shift.proofs.Steps.{funneled_is}
use Rattle.shift.proofs.right_words.Goals as goal

pub returns-then-whole-n : goal.returns-then-whole-n
returns-then-whole-n c = right_out _ (search arith) _ _ (omega arith) c.fill_words.ensures

pub returns-then-down-eq0 : goal.returns-then-down-eq0
returns-then-down-eq0 c =
    right_moved c.args.words.now
    (search arith) _
    c.move_down.new.words _
    (gone_down _ _ _ c.move_down.ensures) (omega arith) (omega arith)
    c.fill_words-then-down-eq0.ensures

pub loop-i-preserved : goal.loop-i-preserved
loop-i-preserved c =
    right_step _ (search arith) _ _ _ _
    c.loop-i.invariant (omega arith) (c.step.ensures ∙ funneled_is _ _ _ _ _ (omega arith) (omega arith))

pub returns : goal.returns
returns c =
    right_last _ (search arith) _ _ _ _ _ _
    c.loop-i.invariant (omega arith) (omega arith)
    (c.step-2.ensures ∙ funneled_is _ _ _ _ _ (omega arith) (omega arith)) c.fill_words-2.ensures
