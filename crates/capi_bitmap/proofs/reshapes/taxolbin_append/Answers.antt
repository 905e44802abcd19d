-- What `shape::append` of the other bitmap answers and leaves, with its count handed out as a change's.
use Rattle.calls.proofs.Calls.{changed}
use Rattle.capi_bitmap.proofs.reshapes.taxolbin_append.Goals as goal

pub returns : goal.returns
returns c = changed c.append-a.ensures c.change.ensures
