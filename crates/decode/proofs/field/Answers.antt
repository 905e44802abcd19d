-- What kind 4 asks for: 12 where the unused bit is set, then 12 for a width over 64, then p, the width and the value put together from two parts.
use mathlib.Core.Path.{sym}
use lib.Seq.{length-take-le}
use native.Mathlib.Omega.{arith}
use Rattle.decode.proofs.Payloads.{rest, field_odd, field-wide, field_good, value-fits}
use Rattle.decode.proofs.field.Goals as goal

pub slice_bounds-number_of-end : goal.slice_bounds-number_of-end
slice_bounds-number_of-end c = sym (length-take-le 4 c.args.payload.now (omega arith))

pub number_of-p-requires : goal.number_of-p-requires
number_of-p-requires c = omega (arith, length-take-le 4 c.args.payload.now (omega arith))

pub returns-then-x-ne0 : goal.returns-then-x-ne0
returns-then-x-ne0 c =
    let l = c.args.payload.now in
    let p = c.number_of-p in
    let b = c.number_of-b in
    let x = c.number_of-x in
    field_odd l p.result b.result x.result (omega arith) p.ensures b.ensures (rest 5 l x.result x.ensures) (omega arith)

pub returns-then-b-gt64 : goal.returns-then-b-gt64
returns-then-b-gt64 c =
    let l = c.args.payload.now in
    let p = c.number_of-p in
    let b = c.number_of-b in
    let x = c.number_of-x in
    field-wide l p.result b.result x.result (omega arith) p.ensures b.ensures (rest 5 l x.result x.ensures) (omega arith)

pub overflow_add-value : goal.overflow_add-value
overflow_add-value c =
    let l = c.args.payload.now in
    let p = c.number_of-p in
    let b = c.number_of-b in
    let x = c.number_of-x in
    record { fits = value-fits l p.result b.result x.result (omega arith) p.ensures b.ensures (rest 5 l x.result x.ensures) }

pub returns : goal.returns
returns c =
    let l = c.args.payload.now in
    let p = c.number_of-p in
    let b = c.number_of-b in
    let x = c.number_of-x in
    field_good l p.result b.result x.result (omega arith) p.ensures b.ensures (rest 5 l x.result x.ensures) (omega arith) (omega arith)
