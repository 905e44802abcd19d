-- What `bitmap::xori` answers and leaves, with its count handed out as a change's.
use Rattle.calls.proofs.Calls.{changed}
use Rattle.capi_bitmap.proofs.changes.taxolbin_xori.Goals as goal

pub returns : goal.returns
returns c = changed c.xori-a.ensures c.change.ensures
