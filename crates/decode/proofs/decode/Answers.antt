-- What a payload of its kind's length asks for: kinds 1 and 2 by its number, 3 by `region`, 4 by `field`, 5 and 6 by `turn`, 7 by `size`, 8 at once, 9 to 11 by `pair`.
use native.Mathlib.Omega.{arith}
use mathlib.Core.Path.{sym, ap, ◌∙◌}
use Rattle.storage.proofs.Checks.{raised}
use Rattle.sheet.specs.declared.Edit.TheVariants.{Shift, Rotate}
use Rattle.decode.specs.Kernels.{turned}
use Rattle.decode.proofs.Payloads.{by_kind, place_set, place-unset, just_reverse}
use Rattle.decode.proofs.Lengths.{of_kind, of_place, of_region, of_field, of_turn, of_size, of_reverse, of_pair}
use Rattle.decode.proofs.decode.Goals as goal

pub number_of-requires : goal.number_of-requires
number_of-requires c = omega (arith, of_place c.args.kind (omega arith) (omega arith))

pub number_of-requires-in-2 : goal.number_of-requires-in-2
number_of-requires-in-2 c = omega (arith, of_place c.args.kind (omega arith) (omega arith))

pub returns-in-1 : goal.returns-in-1
returns-in-1 c = place_set c.args.kind c.args.payload.now _ (omega (arith, of_place c.args.kind (omega arith) (omega arith))) c.number_of.ensures c.in-1.is

pub returns-in-2 : goal.returns-in-2
returns-in-2 c = place-unset c.args.kind c.args.payload.now _ (omega (arith, of_place c.args.kind (omega arith) (omega arith))) c.number_of-in-2.ensures c.in-2.is

pub region-requires : goal.region-requires
region-requires c = omega (arith, of_kind c.args.kind 3 9 of_region c.in-3.is)

pub field-requires : goal.field-requires
field-requires c = omega (arith, of_kind c.args.kind 4 13 of_field c.in-4.is)

pub turn-requires : goal.turn-requires
turn-requires c = omega (arith, of_turn c.args.kind (omega arith) (omega arith))

pub returns-in_err-right-in-5 : goal.returns-in_err-right-in-5
unfolding turned
returns-in_err-right-in-5 c =
    by_kind c.args.kind 5 c.args.payload.now _ c.in-5.is
    (raised c.from_residual.ensures ∙ ap (turned Shift) (sym c.in_err-right-in-5.was) ∙ c.turn.ensures.0)

pub returns-in_ok-right-in-5 : goal.returns-in_ok-right-in-5
unfolding turned
returns-in_ok-right-in-5 c =
    by_kind c.args.kind 5 c.args.payload.now _ c.in-5.is (ap (turned Shift) (sym c.in_ok-right-in-5.was) ∙ c.turn.ensures.0)

pub turn-requires-in-6 : goal.turn-requires-in-6
turn-requires-in-6 c = omega (arith, of_turn c.args.kind (omega arith) (omega arith))

pub returns-in_err-right-in-6 : goal.returns-in_err-right-in-6
unfolding turned
returns-in_err-right-in-6 c =
    by_kind c.args.kind 6 c.args.payload.now _ c.in-6.is
    (raised c.from_residual-in_err-right-in-6.ensures ∙ ap (turned Rotate) (sym c.in_err-right-in-6.was) ∙ c.turn-in-6.ensures.1)

pub returns-in_ok-right-in-6 : goal.returns-in_ok-right-in-6
unfolding turned
returns-in_ok-right-in-6 c =
    by_kind c.args.kind 6 c.args.payload.now _ c.in-6.is (ap (turned Rotate) (sym c.in_ok-right-in-6.was) ∙ c.turn-in-6.ensures.1)

pub size-requires : goal.size-requires
size-requires c = omega (arith, of_kind c.args.kind 7 5 of_size c.in-7.is)

pub returns-in-8 : goal.returns-in-8
returns-in-8 c =
    let a = c.args in
    just_reverse a.kind a.payload.now (omega (arith, of_kind a.kind 8 0 of_reverse c.in-8.is)) c.in-8.is

pub pair-p-requires : goal.pair-p-requires
pair-p-requires c = omega (arith, of_pair c.args.kind (omega arith) (omega arith))

pub pair-p-requires-in-10 : goal.pair-p-requires-in-10
pair-p-requires-in-10 c = omega (arith, of_pair c.args.kind (omega arith) (omega arith))

pub pair-p-requires-in_default : goal.pair-p-requires-in_default
pair-p-requires-in_default c = omega (arith, of_pair c.args.kind (omega arith) (omega arith))
