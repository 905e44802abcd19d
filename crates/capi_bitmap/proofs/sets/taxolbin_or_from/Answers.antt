-- What `combine::or_from` of the left and the right bitmap answers and leaves, with its count handed out as a change's.
use Rattle.calls.proofs.Calls.{changed}
use Rattle.capi_bitmap.proofs.sets.taxolbin_or_from.Goals as goal

pub returns : goal.returns
returns c = changed c.or_from-a.ensures c.change.ensures
