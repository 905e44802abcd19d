-- 13 for a kind over 127, then 12 for a payload over 65,535 bytes, then 6 without room, then R is raised and the remark is at the end.
use native.Mathlib.Omega.{arith}
use Rattle.writer.proofs.Adds.{by_bad, by_good, remark_13, remark_12, remark_good, remark_laid}
use Rattle.writer.proofs.Places.{room, refused, done}
use Rattle.writer.proofs.add_remark.Goals as goal

pub returns-then-kind-gt127 : goal.returns-then-kind-gt127
returns-then-kind-gt127 c = by_bad _ _ _ _ (remark_13 _ _ (omega arith))

pub returns-then-n-gt-MOST : goal.returns-then-n-gt-MOST
returns-then-n-gt-MOST c = by_bad _ _ _ _ (remark_12 _ _ (omega arith) (omega arith))

pub roomless-requires : goal.roomless-requires
roomless-requires c = record { given = c.requires; small = omega arith }

pub returns-then-roomless : goal.returns-then-roomless
returns-then-roomless c = by_good _ _ _ _ _ _ (remark_good _ _ (omega arith) (omega arith)) (refused _ _ _ _ _ _ (remark_laid _ _) _ c.roomless.ensures c.if-roomless.true)

pub put_head-requires : goal.put_head-requires
put_head-requires c =
    let r = room _ _ _ _ c.roomless.ensures c.if-roomless.false in
    (c.requires.headed, omega (arith, r.fits), omega arith)

pub copy-requires : goal.copy-requires
copy-requires c = let r = room _ _ _ _ c.roomless.ensures c.if-roomless.false in omega (arith, r.fits)

pub overflow_add-result : goal.overflow_add-result
overflow_add-result c = let r = room _ _ _ _ c.roomless.ensures c.if-roomless.false in omega (arith, r.fits)

pub overflow_add-result-2 : goal.overflow_add-result-2
overflow_add-result-2 c = let r = room _ _ _ _ c.roomless.ensures c.if-roomless.false in omega (arith, r.fits)

pub returns : goal.returns
returns c =
    by_good _ _ _ _ _ _ (remark_good _ _ (omega arith) (omega arith))
    (done _ _ _ _ _ _ (remark_laid _ _) _ _ (room _ _ _ _ c.roomless.ensures c.if-roomless.false) c.put_head.ensures
    c.copy.ensures)
