-- 9 without a head, then 6 where the old words are more than the result store has, then what the records make of the old bitmap, loaded into it.
use mathlib.Core.Path.{refl, ap}
use mathlib.Core.Bool.{not}
use native.Mathlib.Omega.{arith}
use Rattle.frames.proofs.Heads.{head_long, told_no, told_yes}
use Rattle.reader.proofs.Records.{came_refused}
use Rattle.reader.proofs.Readings.{no_head, no_room, copy_padded, came_copied}
use Rattle.reader.proofs.read_into.Goals as goal

pub returns-then-not-has_head : goal.returns-then-not-has_head
returns-then-not-has_head c =
    let a = c.args in
    came_refused _ _ _ _ _ refl
    (no_head a.edition a.sheet.now a.words.now a.b.count a.res.now
    (told_no a.sheet.now c.has_head.result c.has_head.ensures (ap not c.if-not-has_head.true)))

pub returns-then-n-res : goal.returns-then-n-res
returns-then-n-res c =
    let a = c.args in
    let h = told_yes a.sheet.now c.has_head.result c.has_head.ensures (ap not c.if-not-has_head.false) in
    came_refused _ _ _ _ _ refl (no_room a.edition a.sheet.now a.words.now a.b.count a.res.now h (omega arith))

pub each_record-requires : goal.each_record-requires
each_record-requires c =
    let a = c.args in
    let h = told_yes a.sheet.now c.has_head.result c.has_head.ensures (ap not c.if-not-has_head.false) in
    let load = c.load in
    (head_long a.sheet.now h, copy_padded a.edition a.sheet.now a.words.now a.b.count a.res.now load.new.res h (omega arith) load.ensures (omega arith))

pub returns : goal.returns
returns c =
    let a = c.args in
    let h = told_yes a.sheet.now c.has_head.result c.has_head.ensures (ap not c.if-not-has_head.false) in
    let load = c.load in
    came_copied a.edition a.sheet.now a.words.now a.b.count a.res.now load.new.res h (omega arith) load.ensures _ _ _
    c.record_count-count.ensures c.each_record.ensures
