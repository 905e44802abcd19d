-- Of its word only bit i stays, by a mask.
use Rattle.storage.proofs.Stores.{changes-same}
use Rattle.bitmap.proofs.Tidies.{keeps_bit}
use Rattle.bitmap.proofs.andi.Goals as goal

pub returns : goal.returns
returns c = changes-same _ _ _ _ _ _ (keeps_bit _ _ c.bit.ensures _ _) c.keep_places.ensures
