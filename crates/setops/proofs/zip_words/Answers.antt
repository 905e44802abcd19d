-- The first e words become the operation's of themselves and the other's. Loop: of those e the first k are, the others are as they were.
use mathlib.Core.Path.{ap}
use Prim.Native.Nat.{ℕ}
use native.Mathlib.Omega.{arith}
use lib.ListN.{get_or}
use lib.Seq.{length-take-le, get_or-take}
use Rattle.pairs.specs.Pairs.{word_by}
use Rattle.pairs.proofs.Fronts.{swept_front}
use Rattle.storage.proofs.Combined.{swept_put}
use Rattle.setops.proofs.zip_words.Goals as goal

pub returns : goal.returns
returns c =
    let a = c.args in
    let long = length-take-le a.e a.words.now c.requires.0 in
    swept_put _ _ _ _ _ _
    (swept_front _ _ _ _ _ _ c.requires.0 c.loop-k.invariant (omega (arith, long))
    (λ j l. ap (λ (x : ℕ). word_by a.op x (get_or a.other.now j 0)) (get_or-take a.e a.words.now j 0 l))) (omega arith) (omega arith)
