-- What `register::write_register` answers and leaves in the buffer, with the text's length handed out as an amount.
use Rattle.calls.proofs.Calls.{registered}
use Rattle.capi_sheet.proofs.lists.taxolbin_write_register.Goals as goal

pub returns : goal.returns
returns c = registered c.write_register-a.ensures c.amount.ensures
