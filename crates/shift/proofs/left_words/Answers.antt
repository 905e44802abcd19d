-- Bit i goes to i + k: all out, then whole words, then odd bits. Loop: the words above i are the moved ones, up to i they are as they were.
use mathlib.Core.Path.{◌∙◌}
use native.Mathlib.Omega.{arith}
use Rattle.moves.proofs.Promises.{gone_up}
use Rattle.shift.proofs.Moves.{left_step, left-last, left_out, left_moved}
use Rattle.shift.proofs.Steps.{funneled_is}
use Rattle.shift.proofs.left_words.Goals as goal

pub returns-then-whole-n : goal.returns-then-whole-n
returns-then-whole-n c = left_out _ (search arith) _ _ (omega arith) c.fill_words.ensures

pub returns-then-up-eq0 : goal.returns-then-up-eq0
returns-then-up-eq0 c =
    left_moved c.args.words.now
    (search arith) _
    c.move_up.new.words _
    (gone_up _ _ _ c.move_up.ensures) (omega arith) (omega arith)
    c.fill_words-then-up-eq0.ensures

pub loop-i-preserved : goal.loop-i-preserved
loop-i-preserved c = (
  omega arith,
  left_step _ (search arith) _ _ _ _
      c.loop-i.invariant.1 (omega arith) (omega arith) (c.step.ensures ∙ funneled_is _ _ _ _ _ (omega arith) (omega arith)),
)

pub returns : goal.returns
returns c =
    left-last _ (search arith) _ _ _ _ _
    c.loop-i.invariant.1 (omega arith) (omega arith)
    (c.step-2.ensures ∙ funneled_is _ _ _ _ _ (omega arith) (omega arith)) c.fill_words-2.ensures
