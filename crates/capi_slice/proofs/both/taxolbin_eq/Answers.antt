-- What `slice::eq` answers of both bitmaps, handed out as a truth value.
use Rattle.calls.proofs.Calls.{truth}
use Rattle.capi_slice.proofs.both.taxolbin_eq.Goals as goal

pub returns : goal.returns
returns c = truth c.eq-a.ensures c.truth.ensures
