-- What `text::from_list` of the list's bytes answers and leaves, with its count handed out as a change's.
use Rattle.calls.proofs.Calls.{changed}
use Rattle.capi_sheet.proofs.lists.taxolbin_from_list.Goals as goal

pub returns : goal.returns
returns c = changed c.from_list-a.ensures c.change.ensures
