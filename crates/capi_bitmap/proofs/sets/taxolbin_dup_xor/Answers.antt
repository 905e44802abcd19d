-- What `combine::dup_xor` answers and leaves in a store with no earlier count, with its count handed out as a change's.
use Rattle.calls.proofs.Calls.{changed}
use Rattle.capi_bitmap.proofs.sets.taxolbin_dup_xor.Goals as goal

pub returns : goal.returns
returns c = changed c.dup_xor-a.ensures c.change.ensures
