-- What kinds 9, 10 and 11 have: p is the high half of eight bytes and k the low one.
use native.Mathlib.Omega.{arith}
use mathlib.Core.Path.{refl}
use Rattle.decode.proofs.Payloads.{pair-toggle, pair_open, pair_close}
use Rattle.decode.proofs.pair.Goals as goal

pub returns : goal.returns
returns c =
    let l = c.args.payload.now in
    let x = c.number_of-x in
    (pair-toggle l x.result (omega arith) x.ensures 9 refl, pair_open l x.result (omega arith) x.ensures 10 refl, pair_close l x.result (omega arith) x.ensures 11 refl)
