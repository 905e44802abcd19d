-- What `algebra::and_count` answers of both bitmaps, handed out as an amount.
use Rattle.calls.proofs.Calls.{amount}
use Rattle.capi_slice.proofs.both.taxolbin_and_count.Goals as goal

pub returns : goal.returns
returns c = amount c.and_count-a.ensures c.amount.ensures
