-- The guard, then 15, then 6 where the buffer is shorter than the text, then the text at its front and the text's length; a refusal leaves every byte.
use mathlib.Core.Path.{◌≡◌, sym, ◌∙◌}
use mathlib.Core.Bool.{true}
use Rattle.storage.specs.Guards.{Passed}
use Rattle.storage.proofs.Checks.{passed}
use Rattle.style.specs.Styles.{allowed}
use Rattle.print.proofs.Printing.{prints_raised, prints_no_style, prints_short, prints_done}
use Rattle.print.proofs.write_list.Goals as goal

pub returns-in_err-check : goal.returns-in_err-check
returns-in_err-check c = prints_raised _ _ _ _ c.from_residual.ensures (sym c.in_err-check.was ∙ c.check.ensures)

pub invariant_of-held : goal.invariant_of-held
invariant_of-held c = record { passes = passed _ _ (sym c.in_ok-check.was ∙ c.check.ensures) }

pub returns-then-not-is_allowed : goal.returns-then-not-is_allowed
returns-then-not-is_allowed c =
    let ok : Passed c.args.words.now c.args.b =
    passed _ _ (sym c.in_ok-check.was ∙ c.check.ensures) in
    prints_no_style _ _ _ _ ok (sym c.is_allowed.ensures ∙ c.if-not-is_allowed.true)

pub returns-then-len-out : goal.returns-then-len-out
returns-then-len-out c =
    let ok : Passed c.args.words.now c.args.b =
    passed _ _ (sym c.in_ok-check.was ∙ c.check.ensures) in
    let styled : allowed c.args.style ≡ true =
    sym c.is_allowed.ensures ∙ c.if-not-is_allowed.false in
    prints_short _ _ _ _ ok styled _ c.text_len-len.ensures c.if-len-out.true

pub returns : goal.returns
returns c =
    let ok : Passed c.args.words.now c.args.b =
    passed _ _ (sym c.in_ok-check.was ∙ c.check.ensures) in
    let styled : allowed c.args.style ≡ true =
    sym c.is_allowed.ensures ∙ c.if-not-is_allowed.false in
    prints_done _ _ _ _ ok styled _
    c.text_len-len.ensures _ c.if-len-out.false c.print.ensures
