-- What `shape::shift_right` answers and leaves, with its count handed out as a change's.
use Rattle.calls.proofs.Calls.{changed}
use Rattle.capi_bitmap.proofs.reshapes.taxolbin_shift_right.Goals as goal

pub returns : goal.returns
returns c = changed c.shift_right-a.ensures c.change.ensures
