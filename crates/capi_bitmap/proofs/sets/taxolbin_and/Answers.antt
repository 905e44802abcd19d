-- What `setops::and` with the other bitmap answers and leaves, with its count handed out as a change's.
use Rattle.calls.proofs.Calls.{changed}
use Rattle.capi_bitmap.proofs.sets.taxolbin_and.Goals as goal

pub returns : goal.returns
returns c = changed c.and-a.ensures c.change.ensures
