-- What `algebra::is_disjoint` answers of both bitmaps, handed out as a truth value.
use Rattle.calls.proofs.Calls.{truth}
use Rattle.capi_slice.proofs.both.taxolbin_is_disjoint.Goals as goal

pub returns : goal.returns
returns c = truth c.is_disjoint-a.ensures c.truth.ensures
