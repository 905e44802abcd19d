-- What `shape::resize_bits` answers and leaves, with its count handed out as a change's.
use Rattle.calls.proofs.Calls.{changed}
use Rattle.capi_bitmap.proofs.reshapes.taxolbin_resize_bits.Goals as goal

pub returns : goal.returns
returns c = changed c.resize_bits-a.ensures c.change.ensures
