-- What `shape::split_off` answers and leaves in both stores, with the head's and the tail's count handed out as a split's.
use Rattle.calls.proofs.Calls.{split}
use Rattle.capi_bitmap.proofs.reshapes.taxolbin_split_off.Goals as goal

pub returns : goal.returns
returns c = split c.split_off-a.ensures c.split.ensures
