-- The guard, then i itself past the length, then the first clear bit of its word, then that of the first later word not all ones, else the length.
use mathlib.Core.Path.{sym, ap, ◌∙◌}
use native.Mathlib.Omega.{arith}
use Rattle.storage.proofs.Checks.{passed, reading_is}
use Rattle.scans.proofs.Scans.{zeros_le, other_found, none_found, clear_here, clear_after, clear_none, clear_past}
use Rattle.scans.proofs.next_clear.Goals as goal
use Rattle.std.specs.Prelude.{Ok}

pub returns-then-k-n : goal.returns-then-k-n
returns-then-k-n c =
    let ok = passed c.args.words.now c.args.b (sym c.in_ok-check.was ∙ c.check.ensures) in
    reading_is _ _ _ _ _ ok (ap Ok (clear_past _ _ _ (omega arith)))

pub returns-then-t-ne0 : goal.returns-then-t-ne0
returns-then-t-ne0 c =
    let ok = passed c.args.words.now c.args.b (sym c.in_ok-check.was ∙ c.check.ensures) in
    reading_is _ _ _ _ _ ok
    (ap Ok (clear_here _ _ _ (search arith)
    (omega arith) _ c.if-t-ne0.true c.trailing_zeros.ensures))

pub overflow_add-result-in-Some : goal.overflow_add-result-in-Some
overflow_add-result-in-Some c =
    let ok = passed c.args.words.now c.args.b (sym c.in_ok-check.was ∙ c.check.ensures) in
    omega (
      arith,
      other_found _ _ _ _ _ _ ok.inside
          (sym c.in-Some.is ∙ c.first_not_ones.ensures),
      ok,
    )

pub overflow_mul-result-in-Some : goal.overflow_mul-result-in-Some
overflow_mul-result-in-Some c =
    let ok = passed c.args.words.now c.args.b (sym c.in_ok-check.was ∙ c.check.ensures) in
    omega (
      arith,
      other_found _ _ _ _ _ _ ok.inside
          (sym c.in-Some.is ∙ c.first_not_ones.ensures),
      ok,
    )

pub overflow_add-result-in-Some-2 : goal.overflow_add-result-in-Some-2
overflow_add-result-in-Some-2 c =
    let ok = passed c.args.words.now c.args.b (sym c.in_ok-check.was ∙ c.check.ensures) in
    omega (
      arith,
      other_found _ _ _ _ _ _ ok.inside
          (sym c.in-Some.is ∙ c.first_not_ones.ensures),
      zeros_le _ _
          c.trailing_zeros-in-Some.ensures,
      ok,
    )

pub returns-in-Some : goal.returns-in-Some
returns-in-Some c =
    let ok = passed c.args.words.now c.args.b (sym c.in_ok-check.was ∙ c.check.ensures) in
    reading_is _ _ _ _ _ ok
    (ap Ok (clear_after _ _ _
    (search arith)
    (omega arith) ok.inside _ _ _
    c.if-t-ne0.false
    (other_found _ _ _ _ _ _ ok.inside
    (sym c.in-Some.is ∙ c.first_not_ones.ensures)) c.trailing_zeros-in-Some.ensures))

pub returns-in-None : goal.returns-in-None
returns-in-None c =
    let ok = passed c.args.words.now c.args.b (sym c.in_ok-check.was ∙ c.check.ensures) in
    reading_is _ _ _ _ _ ok
    (ap Ok (clear_none _ _ _
    (search arith)
    (omega arith) ok.inside c.if-t-ne0.false
    (none_found _ _ _ _ ok.inside
    (sym c.in-None.is ∙ c.first_not_ones.ensures))))
