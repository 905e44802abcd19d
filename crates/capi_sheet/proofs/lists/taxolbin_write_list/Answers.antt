-- What `print::write_list` answers and leaves in the buffer, with the text's length handed out as an amount.
use Rattle.calls.proofs.Calls.{printed}
use Rattle.capi_sheet.proofs.lists.taxolbin_write_list.Goals as goal

pub returns : goal.returns
returns c = printed c.write_list-a.ensures c.amount.ensures
