-- The guard, then 6 where the buffer is shorter than the register, then the register at its front and its length; a refusal leaves every byte.
use mathlib.Core.Path.{sym, ap, ◌∙◌}
use native.Mathlib.Omega.{arith}
use Rattle.storage.specs.Guards.{Passed}
use Rattle.storage.proofs.Checks.{passed}
use Rattle.register.specs.Register.{pages_for}
use Rattle.register.proofs.Next.{runs_fit}
use Rattle.register.proofs.Rows.{pages_few}
use Rattle.register.proofs.Printing.{registers_raised, registers_short, registers_done}
use Rattle.register.proofs.write_register.Goals as goal

pub returns-in_err-check : goal.returns-in_err-check
returns-in_err-check c = registers_raised _ _ _ c.from_residual.ensures (sym c.in_err-check.was ∙ c.check.ensures)

pub invariant_of-held : goal.invariant_of-held
invariant_of-held c = record { passes = passed _ _ (sym c.in_ok-check.was ∙ c.check.ensures) }

pub overflow_mul-len-2 : goal.overflow_mul-len-2
overflow_mul-len-2 c =
    let ok : Passed c.args.words.now c.args.b =
    passed _ _ (sym c.in_ok-check.was ∙ c.check.ensures) in
    omega (arith, c.page_count-pages.ensures, c.count_runs.ensures, pages_few c.count_runs.result, ok, runs_fit _ _ ok)

pub returns-then-len-out : goal.returns-then-len-out
returns-then-len-out c =
    let ok : Passed c.args.words.now c.args.b =
    passed _ _ (sym c.in_ok-check.was ∙ c.check.ensures) in
    registers_short _ _ _ ok _ (c.page_count-pages.ensures ∙ ap pages_for c.count_runs.ensures) c.if-len-out.true

pub returns : goal.returns
returns c =
    let ok : Passed c.args.words.now c.args.b =
    passed _ _ (sym c.in_ok-check.was ∙ c.check.ensures) in
    registers_done _ _ _ ok _ (c.page_count-pages.ensures ∙ ap pages_for c.count_runs.ensures) _ c.if-len-out.false c.put_lines.ensures
