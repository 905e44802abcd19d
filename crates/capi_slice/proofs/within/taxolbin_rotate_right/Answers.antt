-- What `shift::rotate_right` answers and leaves, with its count handed out as a change's.
use Rattle.calls.proofs.Calls.{changed}
use Rattle.capi_slice.proofs.within.taxolbin_rotate_right.Goals as goal

pub returns : goal.returns
returns c = changed c.rotate_right-a.ensures c.change.ensures
