-- What `algebra::xor_count` answers of both bitmaps, handed out as an amount.
use Rattle.calls.proofs.Calls.{amount}
use Rattle.capi_slice.proofs.both.taxolbin_xor_count.Goals as goal

pub returns : goal.returns
returns c = amount c.xor_count-a.ensures c.amount.ensures
