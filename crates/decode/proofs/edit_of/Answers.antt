-- What a duty record asks for: 13 where the edition lacks the kind, then 12 for a payload of another length, then what `decode` makes of it.
use native.Mathlib.Omega.{arith}
use mathlib.Core.Path.{sym, ◌∙◌}
use Rattle.decode.proofs.Lengths.{held, asked_newer, asked_long, asked_edit}
use Rattle.decode.proofs.edit_of.Goals as goal

pub returns-then-payload-n : goal.returns-then-payload-n
returns-then-payload-n c =
    let a = c.args in
    asked_long a.edition a.kind a.payload.now c.in-Some.n
    (sym c.in-Some.is ∙ c.payload_bytes.ensures) (omega arith)

pub decode-requires : goal.decode-requires
decode-requires c =
    let a = c.args in
    let h = held a.edition a.kind c.in-Some.n (sym c.in-Some.is ∙ c.payload_bytes.ensures) in
    (omega (arith, h.bytes), h.low, h.high)

pub returns-in_default : goal.returns-in_default
returns-in_default c =
    let a = c.args in
    asked_newer a.edition a.kind a.payload.now (sym c.in_default.is ∙ c.payload_bytes.ensures)

pub returns : goal.returns
returns c =
    let a = c.args in
    asked_edit a.edition a.kind a.payload.now c.in-Some.n
    (sym c.in-Some.is ∙ c.payload_bytes.ensures) c.decode.result (omega arith) c.decode.ensures
