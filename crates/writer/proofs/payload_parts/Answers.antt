-- A duty record's payload as one number, what is over 64 bits apart, by its kind: 3 for a width over 64, 4 for too large a resize, 13 for no kind.
use native.Mathlib.Omega.{arith}
use Rattle.word.proofs.Sets.{val-le}
use Rattle.writer.proofs.Requests.{gets_single, gets_both, gets_nothing, gets_directed, gets_region, gets_3, gets_field, gets_4, gets_resize, gets_13_zero, gets_13_past}
use Rattle.writer.proofs.payload_parts.Goals as goal

pub returns-then-f-gt64 : goal.returns-then-f-gt64
returns-then-f-gt64 c = gets_3 _ _ (omega arith) (omega arith)

pub returns-then-f-gt-MOST_BITS : goal.returns-then-f-gt-MOST_BITS
returns-then-f-gt-MOST_BITS c = gets_4 _ _ (omega arith) (omega arith)

pub returns-in-3 : goal.returns-in-3
returns-in-3 c = gets_region _ _ c.from-flag.ensures (omega (arith, val-le c.args.f.flag)) (omega arith) _ (omega arith) (omega arith)

pub returns-else-f-gt64 : goal.returns-else-f-gt64
returns-else-f-gt64 c = gets_field _ _ (omega arith) (omega arith) (omega arith) (omega arith)

pub returns-else-f-gt-MOST_BITS : goal.returns-else-f-gt-MOST_BITS
returns-else-f-gt-MOST_BITS c = gets_resize _ _ (omega arith) (omega arith)

pub returns-in-8 : goal.returns-in-8
returns-in-8 c = gets_nothing _ _ (omega arith)

pub returns-in-1 : goal.returns-in-1
returns-in-1 c = gets_single _ _ (omega arith) (omega arith) (omega arith)

pub returns-in-5 : goal.returns-in-5
returns-in-5 c = gets_directed _ _ c.from-flag.ensures (omega (arith, val-le c.args.f.flag)) (omega arith) _ (omega arith) (omega arith)

pub returns-in-9-to-11 : goal.returns-in-9-to-11
returns-in-9-to-11 c = gets_both _ _ (omega arith) (omega arith) (omega arith) (omega arith)

pub returns-in_default : goal.returns-in_default
returns-in_default c = gets_13_zero _ _ (omega arith)

pub returns-in_default-2 : goal.returns-in_default-2
returns-in_default-2 c = gets_13_past _ _ (omega arith)
