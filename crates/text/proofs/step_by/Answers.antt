-- What the next byte makes of a token, by its kind: a digit, a blank, which ends an open number, a joiner, the comma, which ends it, or a stop.
use mathlib.Core.Path.{refl, sym, ap, ◌∙◌}
use Rattle.text.specs.Readings.{by_kind}
use Rattle.text.specs.Kernels.{part_of}
use Rattle.text.proofs.Steps.{step-at, number_open, blank_keeps}
use Rattle.text.proofs.step_by.Goals as goal

pub returns-then-p-eq1 : goal.returns-then-p-eq1
unfolding by_kind
returns-then-p-eq1 c = sym (step-at _ (part_of c.args.p) c.in-Blank.is refl (number_open _ _ c.if-p-eq1.true))

pub returns-in-Digit : goal.returns-in-Digit
unfolding by_kind
returns-in-Digit c = c.by_digit.ensures ∙ sym (ap (by_kind _ (part_of c.args.p)) c.in-Digit.is)

pub returns-else-p-eq1 : goal.returns-else-p-eq1
returns-else-p-eq1 c = blank_keeps _ c.args.p c.in-Blank.is c.if-p-eq1.false

pub returns-in-Joiner : goal.returns-in-Joiner
unfolding by_kind
returns-in-Joiner c = c.by_joiner.ensures ∙ sym (ap (by_kind _ (part_of c.args.p)) c.in-Joiner.is)

pub returns-in-Comma : goal.returns-in-Comma
unfolding by_kind
returns-in-Comma c = sym (ap (by_kind _ (part_of c.args.p)) c.in-Comma.is)

pub returns-in-Other : goal.returns-in-Other
unfolding by_kind
returns-in-Other c = sym (ap (by_kind _ (part_of c.args.p)) c.in-Other.is)
