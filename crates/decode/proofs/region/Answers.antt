-- What kind 3 asks for: 12 where an unused bit is set, then the value, p put together from two parts, and k.
use mathlib.Core.Path.{sym}
use lib.Seq.{length-take-le}
use native.Mathlib.Omega.{arith}
use Rattle.decode.proofs.Payloads.{rest, region_bad, region_good}
use Rattle.decode.proofs.region.Goals as goal

pub slice_bounds-number_of-end : goal.slice_bounds-number_of-end
slice_bounds-number_of-end c = sym (length-take-le 1 c.args.payload.now (omega arith))

pub number_of-b-requires : goal.number_of-b-requires
number_of-b-requires c = omega (arith, length-take-le 1 c.args.payload.now (omega arith))

pub returns-then-x-ne0 : goal.returns-then-x-ne0
returns-then-x-ne0 c =
    let l = c.args.payload.now in
    let b = c.number_of-b in
    let x = c.number_of-x in
    region_bad l b.result x.result (omega arith) b.ensures (rest 1 l x.result x.ensures) (omega arith)

pub returns : goal.returns
returns c =
    let l = c.args.payload.now in
    let b = c.number_of-b in
    let x = c.number_of-x in
    region_good l b.result x.result (omega arith) b.ensures (rest 1 l x.result x.ensures) (omega arith)
