-- What kinds 5 and 6 have: 12 where an unused bit is set, then direction and k.
use native.Mathlib.Omega.{arith}
use mathlib.Core.Path.{refl}
use Rattle.decode.specs.Kernels.{turned}
use Rattle.decode.proofs.Payloads.{turn_bad, turn_shift, turn_rotate}
use Rattle.decode.proofs.turn.Goals as goal

pub returns-then-x-ne0 : goal.returns-then-x-ne0
unfolding turned
returns-then-x-ne0 c =
    let l = c.args.payload.now in
    let x = c.number_of-x in
    (turn_bad l x.result (omega arith) x.ensures 5 (omega arith) (omega arith) (omega arith), turn_bad l x.result (omega arith) x.ensures 6 (omega arith) (omega arith) (omega arith))

pub returns : goal.returns
unfolding turned
returns c =
    let l = c.args.payload.now in
    let x = c.number_of-x in
    (turn_shift l x.result (omega arith) x.ensures 5 refl (omega arith), turn_rotate l x.result (omega arith) x.ensures 6 refl (omega arith))
