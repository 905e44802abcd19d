-- What `shift::rotate_left` answers and leaves, with its count handed out as a change's.
use Rattle.calls.proofs.Calls.{changed}
use Rattle.capi_slice.proofs.within.taxolbin_rotate_left.Goals as goal

pub returns : goal.returns
returns c = changed c.rotate_left-a.ensures c.change.ensures
