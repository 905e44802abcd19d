-- The guard, then nothing past the length, then the first set bit of i's word from i on, then that of the first later word not 0, else nothing.
use mathlib.Core.Path.{sym, ◌∙◌}
use native.Mathlib.Omega.{arith}
use Rattle.storage.proofs.Checks.{passed, reading_is}
use Rattle.scans.proofs.Scans.{zeros_le, other_found, none_found, set_here, set_after, set_none, set_past}
use Rattle.scans.proofs.next_set.Goals as goal

pub returns-then-k-n : goal.returns-then-k-n
returns-then-k-n c =
    let ok = passed c.args.words.now c.args.b (sym c.in_ok-check.was ∙ c.check.ensures) in
    reading_is _ _ _ _ _ ok (set_past _ _ _ (omega arith))

pub returns-then-t-ne0 : goal.returns-then-t-ne0
returns-then-t-ne0 c =
    let ok = passed c.args.words.now c.args.b (sym c.in_ok-check.was ∙ c.check.ensures) in
    reading_is _ _ _ _ _ ok
    (set_here _ _ _ (search arith) (omega arith) _
    c.if-t-ne0.true c.trailing_zeros.ensures)

pub overflow_add-result-2 : goal.overflow_add-result-2
overflow_add-result-2 c =
    let ok = passed c.args.words.now c.args.b (sym c.in_ok-check.was ∙ c.check.ensures) in
    omega (
      arith,
      other_found _ _ _ _ _ _ ok.inside
          (sym c.in-Some.is ∙ c.first_nonzero.ensures),
      ok,
    )

pub overflow_mul-result-2 : goal.overflow_mul-result-2
overflow_mul-result-2 c =
    let ok = passed c.args.words.now c.args.b (sym c.in_ok-check.was ∙ c.check.ensures) in
    omega (
      arith,
      other_found _ _ _ _ _ _ ok.inside
          (sym c.in-Some.is ∙ c.first_nonzero.ensures),
      ok,
    )

pub overflow_add-result-3 : goal.overflow_add-result-3
overflow_add-result-3 c =
    let ok = passed c.args.words.now c.args.b (sym c.in_ok-check.was ∙ c.check.ensures) in
    omega (
      arith,
      other_found _ _ _ _ _ _ ok.inside
          (sym c.in-Some.is ∙ c.first_nonzero.ensures),
      zeros_le _ _
          c.trailing_zeros-2.ensures,
      ok,
    )

pub returns : goal.returns
returns c =
    let ok = passed c.args.words.now c.args.b (sym c.in_ok-check.was ∙ c.check.ensures) in
    reading_is _ _ _ _ _ ok
    (set_after _ _ _ (search arith)
    (omega arith) ok.inside _ _ _
    c.if-t-ne0.false
    (other_found _ _ _ _ _ _ ok.inside
    (sym c.in-Some.is ∙ c.first_nonzero.ensures)) c.trailing_zeros-2.ensures)

pub returns-in_default : goal.returns-in_default
returns-in_default c =
    let ok = passed c.args.words.now c.args.b (sym c.in_ok-check.was ∙ c.check.ensures) in
    reading_is _ _ _ _ _ ok
    (set_none _ _ _ (search arith) (omega arith)
    ok.inside c.if-t-ne0.false
    (none_found _ _ _ _ ok.inside
    (sym c.in_default.is ∙ c.first_nonzero.ensures)))
