-- What `shape::toggle_region` answers and leaves, with its count handed out as a change's.
use Rattle.calls.proofs.Calls.{changed}
use Rattle.capi_bitmap.proofs.reshapes.taxolbin_toggle_region.Goals as goal

pub returns : goal.returns
returns c = changed c.toggle_region-a.ensures c.change.ensures
