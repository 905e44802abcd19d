-- What `scans::count_set_bits` answers, handed out as an amount.
use Rattle.calls.proofs.Calls.{amount}
use Rattle.capi_slice.proofs.readings.taxolbin_count_set_bits.Goals as goal

pub returns : goal.returns
returns c = amount c.count_set_bits-a.ensures c.amount.ensures
