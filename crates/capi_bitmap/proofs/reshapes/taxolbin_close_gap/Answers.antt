-- What `gap::close_gap` answers and leaves, with its count handed out as a change's.
use Rattle.calls.proofs.Calls.{changed}
use Rattle.capi_bitmap.proofs.reshapes.taxolbin_close_gap.Goals as goal

pub returns : goal.returns
returns c = changed c.close_gap-a.ensures c.change.ensures
