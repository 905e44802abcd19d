-- What `bitmap::set_region` answers and leaves, the value 0 taken as false, with its count handed out as a change's.
use Rattle.calls.proofs.Calls.{changed}
use Rattle.capi_bitmap.proofs.changes.taxolbin_set_region.Goals as goal

pub returns : goal.returns
returns c = changed c.set_region-a.ensures c.change.ensures
