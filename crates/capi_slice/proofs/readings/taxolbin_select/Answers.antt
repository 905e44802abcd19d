-- What `bits::select` answers, handed out as a search: whether one is found, and its place.
use Rattle.calls.proofs.Calls.{found}
use Rattle.capi_slice.proofs.readings.taxolbin_select.Goals as goal

pub returns : goal.returns
returns c = found c.select-a.ensures c.found.ensures
