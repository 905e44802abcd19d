-- What `algebra::andnot_count` answers of both bitmaps, handed out as an amount.
use Rattle.calls.proofs.Calls.{amount}
use Rattle.capi_slice.proofs.both.taxolbin_andnot_count.Goals as goal

pub returns : goal.returns
returns c = amount c.andnot_count-a.ensures c.amount.ensures
