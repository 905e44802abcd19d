-- What `scans::next_set` answers, handed out as a search: whether one is found, and its place.
use Rattle.calls.proofs.Calls.{found}
use Rattle.capi_slice.proofs.readings.taxolbin_next_set.Goals as goal

pub returns : goal.returns
returns c = found c.next_set-a.ensures c.found.ensures
