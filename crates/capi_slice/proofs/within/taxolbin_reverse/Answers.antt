-- What `bits::reverse` answers and leaves, with its count handed out as a change's.
use Rattle.calls.proofs.Calls.{changed}
use Rattle.capi_slice.proofs.within.taxolbin_reverse.Goals as goal

pub returns : goal.returns
returns c = changed c.reverse-a.ensures c.change.ensures
