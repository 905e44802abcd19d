-- 13, 3 or 4 of the fields, then 6 without room, then R is raised and the record is at the end, its payload of two parts.
use native.Mathlib.Omega.{arith}
use Rattle.writer.proofs.Adds.{by_raised, by_good}
use Rattle.writer.proofs.Duties.{duty_bad, duty_good}
use Rattle.writer.proofs.Places.{room, refused, done}
use Rattle.writer.proofs.add_duty.Goals as goal

pub roomless-requires : goal.roomless-requires
roomless-requires c =
    let d = duty_good _ _ _ c.payload_parts.ensures _ _ _ c.in_ok-high.was c.payload_size-n.ensures in
    record { given = c.requires; small = omega (arith, d.small) }

pub returns-then-roomless : goal.returns-then-roomless
returns-then-roomless c =
    let d = duty_good _ _ _ c.payload_parts.ensures _ _ _ c.in_ok-high.was c.payload_size-n.ensures in
    by_good _ _ _ _ _ _ d.asked (refused _ _ _ _ _ _ d.laid_out _ c.roomless.ensures c.if-roomless.true)

pub overflow_add-kind : goal.overflow_add-kind
overflow_add-kind c =
    let d = duty_good _ _ _ c.payload_parts.ensures _ _ _ c.in_ok-high.was c.payload_size-n.ensures in
    omega (arith, d.kinds)

pub put_head-requires : goal.put_head-requires
put_head-requires c =
    let d = duty_good _ _ _ c.payload_parts.ensures _ _ _ c.in_ok-high.was c.payload_size-n.ensures in
    let r = room _ _ _ _ c.roomless.ensures c.if-roomless.false in
    (c.requires.headed, omega (arith, r.fits), omega (arith, d.kinds))

pub overflow_add-length : goal.overflow_add-length
overflow_add-length c = let r = room _ _ _ _ c.roomless.ensures c.if-roomless.false in omega (arith, r.fits)

pub put_parts-requires : goal.put_parts-requires
put_parts-requires c = let r = room _ _ _ _ c.roomless.ensures c.if-roomless.false in omega (arith, r.fits)

pub overflow_add-result : goal.overflow_add-result
overflow_add-result c = let r = room _ _ _ _ c.roomless.ensures c.if-roomless.false in omega (arith, r.fits)

pub overflow_add-result-2 : goal.overflow_add-result-2
overflow_add-result-2 c = let r = room _ _ _ _ c.roomless.ensures c.if-roomless.false in omega (arith, r.fits)

pub returns-in_err-high : goal.returns-in_err-high
returns-in_err-high c = by_raised _ _ _ _ (duty_bad _ _ _ c.payload_parts.ensures _ c.in_err-high.was) _ c.from_residual.ensures

pub returns : goal.returns
returns c =
    let d = duty_good _ _ _ c.payload_parts.ensures _ _ _ c.in_ok-high.was c.payload_size-n.ensures in
    by_good _ _ _ _ _ _ d.asked
    (done _ _ _ _ _ _ d.laid_out _ _ (room _ _ _ _ c.roomless.ensures c.if-roomless.false) c.put_head.ensures
    c.put_parts.ensures)
