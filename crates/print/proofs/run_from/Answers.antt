-- The next run from i on: none at 0 where the guard stops, none at the length past it, else what `next_run` finds, which is the first of the runs left.
use mathlib.Core.Path.{sym, ◌∙◌}
use native.Mathlib.Omega.{arith}
use Rattle.storage.proofs.Checks.{passed, reading_stopped}
use Rattle.print.proofs.Runs.{answer-past, answer-next}
use Rattle.print.proofs.run_from.Goals as goal

pub returns-in_default : goal.returns-in_default
returns-in_default c = sym (reading_stopped _ _ _ _ _ (sym c.in_default.is ∙ c.check.ensures))

pub overflow_mul-end : goal.overflow_mul-end
overflow_mul-end c = omega (arith, passed _ _ (sym c.in-Ok.is ∙ c.check.ensures))

pub returns-then-i-end : goal.returns-then-i-end
returns-then-i-end c = answer-past _ _ _ (passed _ _ (sym c.in-Ok.is ∙ c.check.ensures)) (omega (arith, c.if-i-end.true))

pub invariant_of-held : goal.invariant_of-held
invariant_of-held c = record { passes = passed _ _ (sym c.in-Ok.is ∙ c.check.ensures) }

pub returns : goal.returns
returns c = answer-next _ _ _ (passed _ _ (sym c.in-Ok.is ∙ c.check.ensures)) c.if-i-end.false _ c.next_run.ensures
