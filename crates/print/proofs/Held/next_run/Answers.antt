-- The next run from i on: one bit where the bit after it is clear, else up to the next clear bit, else none at the length; no scan is refused.
use mathlib.Core.Path.{ap, ◌∙◌}
use native.Mathlib.Omega.{arith}
use Rattle.std.specs.Prelude.{Ok}
use Rattle.print.proofs.Runs.{start_below, run_none, run-single, run-found, found_never, clear_never, clear_bit}
use Rattle.print.proofs.Held.next_run.Goals as goal

pub returns-in-Ok-None : goal.returns-in-Ok-None
returns-in-Ok-None c = run_none _ _ _ c.args.self.now.passes _ c.next_set.ensures c.requires (c.in-Ok-None.is ∙ ap Ok c.in-Ok-None.field-0-is)

pub returns-in-Err : goal.returns-in-Err
returns-in-Err c = absurd (found_never _ _ _ c.args.self.now.passes _ c.next_set.ensures _ c.in-Err.is)

pub overflow_add-next : goal.overflow_add-next
overflow_add-next c =
    omega (
      arith,
      c.requires,
      c.args.self.now.passes,
      start_below _ _ _ c.args.self.now.passes _
          c.next_set.ensures _ (c.in-Ok-Some.is ∙ ap Ok c.in-Ok-Some.field-0-is),
    )

pub returns-then-self-next-eq0 : goal.returns-then-self-next-eq0
returns-then-self-next-eq0 c =
    run-single _ _ _ c.args.self.now.passes _
    c.next_set.ensures _ (c.in-Ok-Some.is ∙ ap Ok c.in-Ok-Some.field-0-is)
    (clear_bit _ _ _ c.if-next-self.true c.if-self-next-eq0.true)

pub returns-in_default : goal.returns-in_default
returns-in_default c =
    absurd (clear_never _ _ _ c.args.self.now.passes _
    c.next_set.ensures _ (c.in-Ok-Some.is ∙ ap Ok c.in-Ok-Some.field-0-is) _
    c.next_clear.ensures _ c.in_default.is)

pub returns : goal.returns
returns c =
    run-found _ _ _ c.args.self.now.passes _
    c.next_set.ensures _ (c.in-Ok-Some.is ∙ ap Ok c.in-Ok-Some.field-0-is) _
    c.next_clear.ensures _ c.in-Ok.is
