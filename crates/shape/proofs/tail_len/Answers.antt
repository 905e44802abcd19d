-- The guard, then 0 with no member, then 0 with none from `at` on, else the words up to the highest one's, counted from `at`.
use Rattle.shape.proofs.Splits.{tail_raised, tail_is, tail_none, tail_some}
use Rattle.scans.proofs.Lasts.{last-refused, last-nothing, last-at}
use native.Mathlib.Omega.{arith}
use mathlib.Core.Path.{sym, ap, ◌∙◌}
use Rattle.std.specs.Prelude.{Ok}
use Rattle.shape.proofs.tail_len.Goals as goal

pub returns-in_err-p : goal.returns-in_err-p
returns-in_err-p c = tail_raised _ _ _ c.from_residual.ensures (last-refused _ _ _ (sym c.in_err-p.was ∙ c.last_set.ensures))

pub returns-in-Some : goal.returns-in-Some
returns-in-Some c =
    let top = last-at _ _ _ (sym (c.in_ok-p.was ∙ ap Ok c.in-Some.is) ∙ c.last_set.ensures) in
    tail_is _ _ _ _ top.0 (tail_some _ _ _ top.1 (omega arith))

pub returns-in_default : goal.returns-in_default
returns-in_default c =
    let top = last-at _ _ _ (sym (c.in_ok-p.was ∙ ap Ok c.in-Some.is) ∙ c.last_set.ensures) in
    tail_is _ _ _ _ top.0 (tail_none _ _ _ top.1 (omega arith))

pub returns-in_default-2 : goal.returns-in_default-2
returns-in_default-2 c =
    let h = c.in_default in
    let top = last-nothing _ _ (sym (c.in_ok-p.was ∙ ap Ok c.in_default.is) ∙ c.last_set.ensures) in
    tail_is _ _ _ _ top.0 (tail_none _ _ _ top.1 (omega arith))
