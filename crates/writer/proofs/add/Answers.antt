-- 2 where the length passes the buffer, then the sheet's 9, 10 or 11, then what the duty record or the remark comes to; the fields are in their types' ranges.
use native.Mathlib.Omega.{arith}
use mathlib.Core.Path.{sym}
use lib.Seq.{length-take-le}
use Rattle.writer.proofs.Adds.{adds_2, adds_raised, adds_given, adds_duty, adds_remark}
use Rattle.writer.proofs.add.Goals as goal

pub returns-then-length-buffer : goal.returns-then-length-buffer
returns-then-length-buffer c = record { adds = adds_2 _ _ _ (omega arith); typed = (omega arith, omega arith, omega arith) }

pub slice_bounds-fault-end-2 : goal.slice_bounds-fault-end-2
slice_bounds-fault-end-2 c = sym (length-take-le _ _ (omega arith))

pub returns-in_err-fault : goal.returns-in_err-fault
returns-in_err-fault c = record { adds = adds_raised _ _ (omega arith) _ c.fault.ensures _ _ c.in_err-fault.was _ c.from_residual.ensures; typed = (omega arith, omega arith, omega arith) }

pub add_duty-requires : goal.add_duty-requires
add_duty-requires c = adds_given _ _ (omega arith) _ c.fault.ensures c.in_ok-fault.was

pub returns-then-duty : goal.returns-then-duty
returns-then-duty c = record {
  adds =
      adds_duty _ _ (omega arith) _ c.fault.ensures
      c.in_ok-fault.was _ _ _ _ _ _ c.if-duty.true
      c.add_duty.ensures;
  typed = (omega arith, omega arith, omega arith);
}

pub add_remark-requires : goal.add_remark-requires
add_remark-requires c = adds_given _ _ (omega arith) _ c.fault.ensures c.in_ok-fault.was

pub returns : goal.returns
returns c = record {
  adds =
      adds_remark _ _ (omega arith) _ c.fault.ensures
      c.in_ok-fault.was _ _ _ _ _ _ c.if-duty.false
      c.add_remark.ensures;
  typed = (omega arith, omega arith, omega arith);
}
