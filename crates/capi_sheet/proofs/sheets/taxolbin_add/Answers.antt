-- What `writer::add` answers and leaves, a duty or flag of 0 taken as false, with the sheet's length handed out as an addition's.
use Rattle.calls.proofs.Calls.{written}
use Rattle.capi_sheet.proofs.sheets.taxolbin_add.Goals as goal

pub returns : goal.returns
returns c = written c.add-a.ensures.adds c.added.ensures
