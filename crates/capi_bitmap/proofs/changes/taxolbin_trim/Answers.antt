-- What `bitmap::trim` answers, with its count handed out as a change's; the words are only read.
use Rattle.calls.proofs.Calls.{changed}
use Rattle.capi_bitmap.proofs.changes.taxolbin_trim.Goals as goal

pub returns : goal.returns
returns c = changed c.trim-a.ensures c.change.ensures
