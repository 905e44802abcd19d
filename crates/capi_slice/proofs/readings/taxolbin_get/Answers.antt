-- What `slice::get` answers of bit i, handed out as a truth value.
use Rattle.calls.proofs.Calls.{truth}
use Rattle.capi_slice.proofs.readings.taxolbin_get.Goals as goal

pub returns : goal.returns
returns c = truth c.get-a.ensures c.truth.ensures
