-- What `algebra::or_count` answers of both bitmaps, handed out as an amount.
use Rattle.calls.proofs.Calls.{amount}
use Rattle.capi_slice.proofs.both.taxolbin_or_count.Goals as goal

pub returns : goal.returns
returns c = amount c.or_count-a.ensures c.amount.ensures
