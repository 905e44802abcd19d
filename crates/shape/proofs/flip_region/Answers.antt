-- The bits from i to `last` flip and no others: whole words flip, and the other bits of both edge words flip twice.
use Rattle.shape.proofs.Flips.{flips_region}
use native.Mathlib.Omega.{arith}
use Rattle.shape.proofs.flip_region.Goals as goal

pub returns : goal.returns
returns c =
    flips_region _ _ _ _ _ _ (search arith) (omega arith)
    (omega arith) c.low_mask.ensures c.low_mask-2.ensures
    c.invert_words.ensures
