-- Bit i is cleared, by a mask.
use Rattle.storage.proofs.Stores.{changes-same}
use Rattle.bitmap.proofs.Tidies.{drops_bit}
use Rattle.bitmap.proofs.andnoti.Goals as goal

pub returns : goal.returns
returns c = changes-same _ _ _ _ _ _ (drops_bit _ _ c.bit.ensures _ _) c.keep_places.ensures
