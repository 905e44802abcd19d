-- What `reader::read` answers and leaves in the result store, with the record and the count handed out as a reading's.
use Rattle.calls.proofs.Calls.{read}
use Rattle.capi_sheet.proofs.sheets.taxolbin_read.Goals as goal

pub returns : goal.returns
returns c = read c.read-a.ensures c.reading.ensures
