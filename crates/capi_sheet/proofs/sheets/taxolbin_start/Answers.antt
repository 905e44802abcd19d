-- What `writer::start` answers and leaves, with the sheet's length handed out as an addition's.
use Rattle.calls.proofs.Calls.{written}
use Rattle.capi_sheet.proofs.sheets.taxolbin_start.Goals as goal

pub returns : goal.returns
returns c = written c.start-a.ensures c.added.ensures
