-- The answer is 0 exactly where the eight words made from i on are 0. Loop: `some` is 0 exactly where those from i on, below i + k, are 0.
use mathlib.Core.Path.{sym, ◌∙◌}
use native.Mathlib.Omega.{arith}
use Rattle.arch.proofs.Scans.{alike_to}
use Rattle.pairs.proofs.Tables.{by_at}
use Rattle.pairs.proofs.Scans.{joined-start, joined-more, joined_to}
use Rattle.pairs.proofs.some_in_eight.Goals as goal

pub loop-k-init : goal.loop-k-init
loop-k-init c = joined_to (joined-start _ _) (omega arith)

pub loop-k-preserved : goal.loop-k-preserved
loop-k-preserved c = joined_to (joined-more c.loop-k.invariant (omega arith) (c.word-some.ensures ∙ sym (by_at _ _ _ _))) (omega arith)

pub returns : goal.returns
returns c =
    let j = c.loop-k.invariant in (
      λ e. alike_to _ _ (j.none e) (omega arith) (omega arith),
      λ s. j.all (alike_to _ _ s (omega arith) (omega arith)),
    )
