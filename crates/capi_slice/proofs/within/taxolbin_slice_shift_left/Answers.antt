-- What `shift::shift_left` answers and leaves, with its count handed out as a change's.
use Rattle.calls.proofs.Calls.{changed}
use Rattle.capi_slice.proofs.within.taxolbin_slice_shift_left.Goals as goal

pub returns : goal.returns
returns c = changed c.shift_left-a.ensures c.change.ensures
