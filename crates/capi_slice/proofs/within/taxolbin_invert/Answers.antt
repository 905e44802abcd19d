-- What `bits::invert` answers and leaves, with its count handed out as a change's.
use Rattle.calls.proofs.Calls.{changed}
use Rattle.capi_slice.proofs.within.taxolbin_invert.Goals as goal

pub returns : goal.returns
returns c = changed c.invert-a.ensures c.change.ensures
