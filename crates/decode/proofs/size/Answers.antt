-- What kind 7 asks for: 12 where an unused bit is set, then 12 for more bits than a resize may have, then the resize.
use native.Mathlib.Omega.{arith}
use Rattle.decode.proofs.Payloads.{size_bad, size-over, size_good}
use Rattle.decode.proofs.size.Goals as goal

pub returns-then-x-ne0 : goal.returns-then-x-ne0
returns-then-x-ne0 c = size_bad c.args.payload.now c.number_of-x.result (omega arith) c.number_of-x.ensures (omega arith)

pub returns-then-x-gt-MOST_BITS : goal.returns-then-x-gt-MOST_BITS
returns-then-x-gt-MOST_BITS c = size-over c.args.payload.now c.number_of-x.result (omega arith) c.number_of-x.ensures (omega arith)

pub returns : goal.returns
returns c = size_good c.args.payload.now c.number_of-x.result (omega arith) c.number_of-x.ensures (omega arith) (omega arith)
