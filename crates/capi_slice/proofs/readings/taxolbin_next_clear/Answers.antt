-- What `scans::next_clear` answers, handed out as an amount.
use Rattle.calls.proofs.Calls.{amount}
use Rattle.capi_slice.proofs.readings.taxolbin_next_clear.Goals as goal

pub returns : goal.returns
returns c = amount c.next_clear-a.ensures c.amount.ensures
