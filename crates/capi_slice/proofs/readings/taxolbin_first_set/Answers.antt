-- What `scans::first_set` answers, handed out as a search: whether one is found, and its place.
use Rattle.calls.proofs.Calls.{found}
use Rattle.capi_slice.proofs.readings.taxolbin_first_set.Goals as goal

pub returns : goal.returns
returns c = found c.first_set-a.ensures c.found.ensures
