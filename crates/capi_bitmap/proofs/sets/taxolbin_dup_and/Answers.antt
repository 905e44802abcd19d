-- What `combine::dup_and` answers and leaves in a store with no earlier count, with its count handed out as a change's.
use Rattle.calls.proofs.Calls.{changed}
use Rattle.capi_bitmap.proofs.sets.taxolbin_dup_and.Goals as goal

pub returns : goal.returns
returns c = changed c.dup_and-a.ensures c.change.ensures
