-- What `algebra::is_subset` answers of both bitmaps, handed out as a truth value.
use Rattle.calls.proofs.Calls.{truth}
use Rattle.capi_slice.proofs.both.taxolbin_is_subset.Goals as goal

pub returns : goal.returns
returns c = truth c.is_subset-a.ensures c.truth.ensures
