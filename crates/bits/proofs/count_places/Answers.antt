-- The set bits of x from place `from` on, below `end`: x moved down by `from`, and of it the low end - from places.
use native.Mathlib.Omega.{arith}
use Rattle.bits.proofs.Counts.{places_count}
use Rattle.bits.proofs.count_places.Goals as goal

pub returns : goal.returns
returns c = places_count _ _ _ _ _ (omega arith) (omega arith) c.low_mask.ensures c.count_ones.ensures
