-- What `bits::rank` answers of the bits below i, handed out as an amount.
use Rattle.calls.proofs.Calls.{amount}
use Rattle.capi_slice.proofs.readings.taxolbin_rank.Goals as goal

pub returns : goal.returns
returns c = amount c.rank-a.ensures c.amount.ensures
