-- What `bits::count_region` answers, handed out as an amount.
use Rattle.calls.proofs.Calls.{amount}
use Rattle.capi_slice.proofs.readings.taxolbin_count_region.Goals as goal

pub returns : goal.returns
returns c = amount c.count_region-a.ensures c.amount.ensures
