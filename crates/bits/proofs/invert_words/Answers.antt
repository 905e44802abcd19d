-- Every bit flips: what the loop leaves, at the length.
use native.Mathlib.Omega.{arith}
use Rattle.bits.proofs.Moves.{inverted_is}
use Rattle.bits.proofs.invert_words.Goals as goal

pub returns : goal.returns
returns c = inverted_is _ _ _ c.loop-x.invariant.0 c.loop-x.invariant.1 (omega arith)
