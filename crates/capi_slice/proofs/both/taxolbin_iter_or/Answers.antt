-- What `walk::iter_or` answers of both bitmaps from i on, handed out as a search: whether one is found, and its place.
use Rattle.calls.proofs.Calls.{found}
use Rattle.capi_slice.proofs.both.taxolbin_iter_or.Goals as goal

pub returns : goal.returns
returns c = found c.iter_or-a.ensures c.found.ensures
