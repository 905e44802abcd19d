-- Where the answer is 0 the eight words are x. Loop: where nothing is joined yet, the words before are x.
use Rattle.std.proofs.Common.{arith}
use Rattle.word.proofs.Eights.{or_none, xor_none}
use Rattle.arch.proofs.Scans.{alike_none, alike_join, alike_one, alike_to}
use Rattle.arch.proofs.others.Goals as goal

pub loop-word-init : goal.loop-word-init
loop-word-init c = λ e. alike_none _ _ _ _ (omega arith)

pub loop-word-preserved : goal.loop-word-preserved
loop-word-preserved c =
    λ e. alike_join (c.loop-word.invariant (or_none _ _ e).0) (alike_one _ _ _ (xor_none _ _ (or_none _ _ e).1)) (omega arith)

pub returns : goal.returns
returns c = λ e. alike_to _ _ (c.loop-word.invariant e) (omega arith) (omega arith)
