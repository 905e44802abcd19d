-- Bit i goes to the length less i less 1: the two ends have met.
use native.Mathlib.Omega.{arith}
use Rattle.word.proofs.Ends.{closed}
use Rattle.bits.proofs.Moves.{reversed_is}
use Rattle.bits.proofs.reverse_words.Goals as goal

pub returns : goal.returns
returns c = reversed_is _ _ (search arith) (closed _ _ _ _ _ c.loop-lo.invariant (omega (arith, c.div_ceil-lo-end.ensures)))
