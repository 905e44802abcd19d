-- What `bitmap::andi` answers and leaves, with its count handed out as a change's.
use Rattle.calls.proofs.Calls.{changed}
use Rattle.capi_bitmap.proofs.changes.taxolbin_andi.Goals as goal

pub returns : goal.returns
returns c = changed c.andi-a.ensures c.change.ensures
