-- The payload is at a place, the other bytes as they were.
use Rattle.writer.proofs.Puts.{copied}
use Rattle.writer.proofs.copy.Goals as goal

pub returns : goal.returns
returns c = copied _ _ _ _ c.requires c.copy_from_slice.ensures.after
