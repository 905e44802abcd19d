-- The bit of a number that ended: missing without digits, then below the first number, then itself less that up to the limit, else missing.
use mathlib.Core.Path.{sym, ap, ◌∙◌}
use Rattle.text.proofs.Steps.{number_none, number_some, bit-within, bit_below, bit-over}
use Rattle.text.specs.Readings.{value}
use Rattle.text.proofs.value_of.Goals as goal

pub returns-then-phase-eq0 : goal.returns-then-phase-eq0
unfolding value
returns-then-phase-eq0 c = sym (ap (value _) (number_none _ _ c.if-phase-eq0.true))

pub returns-then-v-first : goal.returns-then-v-first
returns-then-v-first c = sym (number_some _ _ _ c.if-phase-eq0.false ∙ bit_below _ _ c.if-v-first.true)

pub returns-then-v-first-le-LIMIT : goal.returns-then-v-first-le-LIMIT
returns-then-v-first-le-LIMIT c = sym (number_some _ _ _ c.if-phase-eq0.false ∙ bit-within _ _ c.if-v-first.false c.if-v-first-le-LIMIT.true)

pub returns-else-v-first-le-LIMIT : goal.returns-else-v-first-le-LIMIT
returns-else-v-first-le-LIMIT c = sym (number_some _ _ _ c.if-phase-eq0.false ∙ bit-over _ _ c.if-v-first.false c.if-v-first-le-LIMIT.false)
