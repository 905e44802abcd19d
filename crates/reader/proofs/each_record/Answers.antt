-- 10 for a cut record, or what a record gets, then 11, else done. Loop: the store has what i records made, zeros past the count, and the records left decide.
use mathlib.Core.Path.{◌∙◌}
use native.Mathlib.Omega.{arith}
use Rattle.frames.proofs.Walks.{told-whole, told-cut}
use Rattle.reader.proofs.Records.{begins, cut, stops, goes_on, remain, finished, came_refused, came_done}
use Rattle.reader.proofs.each_record.Goals as goal

pub loop-i-init : goal.loop-i-init
loop-i-init c =
    let a = c.args in
    begins a.edition a.sheet.now a.n a.words.now a.old c.requires.0
    (λ k. omega (arith, c.slice_known-1.given k)) c.requires.1

pub shape_of-words-in_default : goal.shape_of-words-in_default
shape_of-words-in_default c = c.loop-i.invariant.long

pub returns-in_default : goal.returns-in_default
returns-in_default c =
    let l = c.loop-i in
    let a = c.args in
    came_refused _ _ _ _ _ l.invariant.long
    (cut a.edition a.sheet.now a.n a.words.now a.old l.words l.count l.i l.at l.invariant (omega arith)
    (told-cut _ _ _ c.record_end.ensures c.in_default.is))

pub turn-requires : goal.turn-requires
turn-requires c =
    let w = told-whole _ _ _ _ c.record_end.ensures c.in-Some.is in
    (w.0, w.1, c.loop-i.invariant.padded)

pub shape_of-words-in-Err : goal.shape_of-words-in-Err
shape_of-words-in-Err c = c.words-1.given ∙ c.loop-i.invariant.long

pub returns-in-Err : goal.returns-in-Err
returns-in-Err c =
    let l = c.loop-i in
    let a = c.args in
    let w = told-whole _ _ _ _ c.record_end.ensures c.in-Some.is in
    let t = c.turn in
    let e = c.in-Err in
    came_refused _ _ _ _ _ (c.words-1.given ∙ l.invariant.long)
    (stops a.edition a.sheet.now a.n a.words.now a.old l.words l.count l.i l.at l.invariant (omega arith)
    c.in-Some.end w.0 w.1 t.result t.new.words e.field-0 e.is t.ensures)

pub loop-i-preserved : goal.loop-i-preserved
loop-i-preserved c =
    let l = c.loop-i in
    let a = c.args in
    let w = told-whole _ _ _ _ c.record_end.ensures c.in-Some.is in
    let t = c.turn in
    let e = c.in-Ok in
    goes_on a.edition a.sheet.now a.n a.words.now a.old l.words l.count l.i l.at l.invariant (omega arith)
    c.in-Some.end w.0 w.1 t.result t.new.words e.after e.is t.ensures

pub shape_of-words-then-at-sheet : goal.shape_of-words-then-at-sheet
shape_of-words-then-at-sheet c = c.loop-i.invariant.long

pub returns-then-at-sheet : goal.returns-then-at-sheet
returns-then-at-sheet c =
    let l = c.loop-i in let a = c.args in
    came_refused _ _ _ _ _ l.invariant.long
    (remain a.edition a.sheet.now a.n a.words.now a.old l.words l.count l.i l.at l.invariant (omega arith)
    (omega arith))

pub shape_of-words : goal.shape_of-words
shape_of-words c = c.loop-i.invariant.long

pub returns : goal.returns
returns c =
    let l = c.loop-i in let a = c.args in
    came_done _ _ _ _ _ l.invariant.long l.invariant.fit l.invariant.padded
    (finished a.edition a.sheet.now a.n a.words.now a.old l.words l.count l.i l.at l.invariant (omega arith)
    (omega arith))
