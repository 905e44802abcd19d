-- An edit does to the store what its kind's step does: in each case what the call promises; a shift and a rotation go by their direction.
use mathlib.Core.Path.{ap, ◌∙◌}
use mathlib.Core.Bool.{Bool}
use Rattle.sheet.specs.Reads.{step}
use Rattle.sheet.specs.declared.Edit.TheVariants.{Shift, Rotate}
use Rattle.reader.proofs.Turns.{step_of}
use Rattle.reader.proofs.apply.Goals as goal

pub returns-then-right : goal.returns-then-right
unfolding step
returns-then-right c =
    step_of (c.in-Shift.is ∙ ap
    (λ (t : Bool). Shift t c.in-Shift.k)
    c.if-right.true) c.shift_right.ensures

pub returns-then-right-2 : goal.returns-then-right-2
unfolding step
returns-then-right-2 c =
    step_of (c.in-Rotate.is ∙ ap
    (λ (t : Bool). Rotate t c.in-Rotate.k)
    c.if-right-2.true) c.rotate_right.ensures

pub returns-in-Set : goal.returns-in-Set
unfolding step
returns-in-Set c = step_of c.in-Set.is c.set.ensures

pub returns-in-Unset : goal.returns-in-Unset
unfolding step
returns-in-Unset c = step_of c.in-Unset.is c.unset.ensures

pub returns-in-SetRegion : goal.returns-in-SetRegion
unfolding step
returns-in-SetRegion c = step_of c.in-SetRegion.is c.set_region.ensures

pub returns-in-SetField : goal.returns-in-SetField
unfolding step
returns-in-SetField c = step_of c.in-SetField.is c.set_field.ensures

pub returns-else-right : goal.returns-else-right
unfolding step
returns-else-right c =
    step_of (c.in-Shift.is ∙ ap
    (λ (t : Bool). Shift t c.in-Shift.k)
    c.if-right.false) c.shift_left.ensures

pub returns-else-right-2 : goal.returns-else-right-2
unfolding step
returns-else-right-2 c =
    step_of (c.in-Rotate.is ∙ ap
    (λ (t : Bool). Rotate t c.in-Rotate.k)
    c.if-right-2.false) c.rotate_left.ensures

pub returns-in-Resize : goal.returns-in-Resize
unfolding step
returns-in-Resize c = step_of c.in-Resize.is c.resize_bits.ensures

pub returns-in-Reverse : goal.returns-in-Reverse
unfolding step
returns-in-Reverse c = step_of c.in-Reverse.is c.reverse.ensures

pub returns-in-ToggleRegion : goal.returns-in-ToggleRegion
unfolding step
returns-in-ToggleRegion c = step_of c.in-ToggleRegion.is c.toggle_region.ensures

pub returns-in-Open : goal.returns-in-Open
unfolding step
returns-in-Open c = step_of c.in-Open.is c.open_gap.ensures

pub returns-in-Close : goal.returns-in-Close
unfolding step
returns-in-Close c = step_of c.in-Close.is c.close_gap.ensures
