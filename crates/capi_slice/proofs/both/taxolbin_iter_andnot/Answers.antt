-- What `walk::iter_andnot` answers of both bitmaps from i on, handed out as a search: whether one is found, and its place.
use Rattle.calls.proofs.Calls.{found}
use Rattle.capi_slice.proofs.both.taxolbin_iter_andnot.Goals as goal

pub returns : goal.returns
returns c = found c.iter_andnot-a.ensures c.found.ensures
