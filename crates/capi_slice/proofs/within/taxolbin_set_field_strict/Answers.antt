-- What `slice::set_field_strict` answers and leaves, with its count handed out as a change's.
use Rattle.calls.proofs.Calls.{changed}
use Rattle.capi_slice.proofs.within.taxolbin_set_field_strict.Goals as goal

pub returns : goal.returns
returns c = changed c.set_field_strict-a.ensures c.change.ensures
