-- What `combine::dup_andnot` answers and leaves in a store with no earlier count, with its count handed out as a change's.
use Rattle.calls.proofs.Calls.{changed}
use Rattle.capi_bitmap.proofs.sets.taxolbin_dup_andnot.Goals as goal

pub returns : goal.returns
returns c = changed c.dup_andnot-a.ensures c.change.ensures
