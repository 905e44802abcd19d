-- What `scans::last_set` answers, handed out as a search: whether one is found, and its place.
use Rattle.calls.proofs.Calls.{found}
use Rattle.capi_slice.proofs.readings.taxolbin_last_set.Goals as goal

pub returns : goal.returns
returns c = found c.last_set-a.ensures c.found.ensures
