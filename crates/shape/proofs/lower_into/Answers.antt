-- The words are those of the bits from `at` on. Loop: the first j of them are, the others are as they were.
use mathlib.Core.Path.{refl, ◌∙◌}
use native.Mathlib.Omega.{arith}
use Rattle.word.proofs.Sweep.{sweep_up, sweep_to}
use Rattle.shift.proofs.Moves.{right_word}
use Rattle.shift.proofs.Turns.{swept_all}
use Rattle.shape.proofs.lower_into.Goals as goal

pub loop-j-preserved : goal.loop-j-preserved
loop-j-preserved c =
    let s = c.loop-j.invariant in
    sweep_up _ _ _ _ _ _ s (omega (arith, s.long)) (omega arith)
    ((rw c.word_at.ensures at c.funnel.ensures) ∙ right_word c.args.words.now (search arith) c.args.at c.loop-j.j)

pub returns : goal.returns
returns c = swept_all _ _ _ (sweep_to _ _ _ _ _ _ _ c.loop-j.invariant refl (omega (arith, c.loop-j.invariant.long)))
