-- Whether a record has no room: true at 65,535 records, else by whether the bytes behind the sheet are fewer than 3 + n.
use native.Mathlib.Omega.{arith}
use Rattle.writer.proofs.Places.{one_too_many, room-left}
use Rattle.writer.proofs.roomless.Goals as goal

pub returns-then-record_count-ge-MOST : goal.returns-then-record_count-ge-MOST
returns-then-record_count-ge-MOST c = one_too_many _ _ _ _ c.record_count.ensures (omega arith)

pub returns : goal.returns
returns c = room-left _ _ _ _ c.record_count.ensures (omega arith) (omega arith)
