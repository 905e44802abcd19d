-- What `slice::get_field` answers of the bits from i on, handed out as a field.
use Rattle.calls.proofs.Calls.{amount}
use Rattle.capi_slice.proofs.readings.taxolbin_get_field.Goals as goal

pub returns : goal.returns
returns c = amount c.get_field-a.ensures c.field.ensures
