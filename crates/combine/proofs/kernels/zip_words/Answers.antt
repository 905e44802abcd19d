-- The first e words become the operation's of both slices. Loop: of those e the first k are, the others are as they were.
use mathlib.Core.Path.{refl, sym, ◌∙◌}
use native.Mathlib.Omega.{arith}
use lib.Seq.{length-take-le}
use Rattle.word.proofs.Sweep.{sweep_up}
use Rattle.pairs.proofs.Tables.{by_at}
use Rattle.pairs.proofs.Fronts.{swept_front}
use Rattle.storage.proofs.Combined.{swept_put}
use Rattle.combine.proofs.kernels.zip_words.Goals as goal

pub loop-k-preserved : goal.loop-k-preserved
loop-k-preserved c =
    let l = c.loop-k in
    sweep_up _ _ _ _ _ _ l.invariant (omega (arith, l.invariant.long)) (omega arith) (c.word.ensures ∙ sym (by_at _ _ _ _))

pub returns : goal.returns
returns c =
    let a = c.args in
    swept_put _ _ _ _ _ _
    (swept_front _ _ _ _ _ _ c.requires.0 c.loop-k.invariant (omega (arith, length-take-le a.e a.words.now c.requires.0)) (λ j l. refl))
    (omega arith) (omega arith)
