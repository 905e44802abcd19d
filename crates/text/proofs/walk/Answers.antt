-- The text is measured, its good tokens' ranges are set. Outer loop: those before `at` are, `top` is their largest. Inner loop: `part` is the token as far as it is read.
use Rattle.text.specs.Kernels.{part_of, step_of}
use mathlib.Core.Path.{refl, sym, ap, ◌∙◌, subst}
use Rattle.text.proofs.Steps.{token_limit}
use mathlib.Core.List.{[]}
use native.Mathlib.Omega.{arith}
use Rattle.text.proofs.Tokens.{Inside, inside_start, inside_go, inside_stop, Ended, ended-left, ended-comma, going_start, stops, none_at, empty_first, empty_inner, empty-last}
use Rattle.text.proofs.Tokens.{range_last, range-more, range_less, going_length, more-length}
use Rattle.text.proofs.walk.Goals.{else-digits-test, then-digits-test+in-Ends}
use Rattle.std.specs.Prelude.{Ok}
use Rattle.text.proofs.walk.Goals as goal

pub tokens-init : goal.tokens-init
tokens-init c = ([], going_start _ _ _ (λ k. omega (arith, c.type_inv.words k)))

pub digits-init : goal.digits-init
digits-init c = (subst (Inside _ _ _ _) (sym c.fresh-part.ensures) (inside_start _ _ _ c.tokens.invariant.1.within), refl)

pub digits-preserved : goal.digits-preserved
digits-preserved c = (
  inside_go _ _ _ _ _ _ _ c.digits.invariant.0 c.digits-test.true
      c.kind_of.ensures c.step_by-s.ensures _ (ap step_of c.in-Go.is),
  c.digits.invariant.1,
)

pub overflow_add-b : goal.overflow_add-b
overflow_add-b c = omega (arith, token_limit _ _ _ _ (sym c.token_of.ensures ∙ (c.in-Ok-Some.is ∙ ap Ok c.in-Ok-Some.field-0-is)))

pub shape_of-words-then-not-more : goal.shape_of-words-then-not-more
shape_of-words-then-not-more c = going_length _ _ _ _ _ _ _ _ c.tokens.invariant.1

pub returns-then-not-more : goal.returns-then-not-more
returns-then-not-more c =
    -- how the inner loop was left
    let e : Ended c.args.style c.args.text.now c.tokens.at (part_of c.digits.part) c.digits-test.at c.digits-test.more =
    elim c.digits-test.branch [
      | else-digits-test w ↦ ended-left _ _ _ _ _ _ c.digits.invariant.0 w.digits-test.false (w.more-is ∙ c.digits.invariant.1) _
      | then-digits-test+in-Ends w ↦
          ended-comma _ _ _ _ _ _ _ c.digits.invariant.0 w.digits-test.true w.kind_of.ensures w.step_by-s.ensures (ap step_of w.in-Ends.is) _ _ w.at-is w.more-is
    ] in
    empty-last _ _ _ _ _ _ _ _ c.tokens.invariant.1 _ _ _ e _
    c.token_of.ensures (c.in-Ok-None.is ∙ ap Ok c.in-Ok-None.field-0-is) c.if-any.true c.if-not-more.true

pub shape_of-words-then-not-more-2 : goal.shape_of-words-then-not-more-2
shape_of-words-then-not-more-2 c =
    -- how the inner loop was left
    let e : Ended c.args.style c.args.text.now c.tokens.at (part_of c.digits.part) c.digits-test.at c.digits-test.more =
    elim c.digits-test.branch [
      | else-digits-test w ↦ ended-left _ _ _ _ _ _ c.digits.invariant.0 w.digits-test.false (w.more-is ∙ c.digits.invariant.1) _
      | then-digits-test+in-Ends w ↦
          ended-comma _ _ _ _ _ _ _ c.digits.invariant.0 w.digits-test.true w.kind_of.ensures w.step_by-s.ensures (ap step_of w.in-Ends.is) _ _ w.at-is w.more-is
    ] in
    more-length _ _ _ _ _ _ _ _ c.tokens.invariant.1 _ _ _
    e _
    c.token_of.ensures _ _ (c.in-Ok-Some.is ∙ ap Ok c.in-Ok-Some.field-0-is) _
    c.fill_region.ensures _ c.max-top.ensures

pub returns-then-not-more-2 : goal.returns-then-not-more-2
returns-then-not-more-2 c =
    -- how the inner loop was left
    let e : Ended c.args.style c.args.text.now c.tokens.at (part_of c.digits.part) c.digits-test.at c.digits-test.more =
    elim c.digits-test.branch [
      | else-digits-test w ↦ ended-left _ _ _ _ _ _ c.digits.invariant.0 w.digits-test.false (w.more-is ∙ c.digits.invariant.1) _
      | then-digits-test+in-Ends w ↦
          ended-comma _ _ _ _ _ _ _ c.digits.invariant.0 w.digits-test.true w.kind_of.ensures w.step_by-s.ensures (ap step_of w.in-Ends.is) _ _ w.at-is w.more-is
    ] in
    range_last _ _ _ _ _ _ _ _ c.tokens.invariant.1 _ _ _
    e _
    c.token_of.ensures _ _ (c.in-Ok-Some.is ∙ ap Ok c.in-Ok-Some.field-0-is) _
    c.fill_region.ensures _ c.max-top.ensures c.if-not-more-2.true

pub tokens-smaller : goal.tokens-smaller
tokens-smaller c =
    -- how the inner loop was left
    let e : Ended c.args.style c.args.text.now c.tokens.at (part_of c.digits.part) c.digits-test.at c.digits-test.more =
    elim c.digits-test.branch [
      | else-digits-test w ↦ ended-left _ _ _ _ _ _ c.digits.invariant.0 w.digits-test.false (w.more-is ∙ c.digits.invariant.1) _
      | then-digits-test+in-Ends w ↦
          ended-comma _ _ _ _ _ _ _ c.digits.invariant.0 w.digits-test.true w.kind_of.ensures w.step_by-s.ensures (ap step_of w.in-Ends.is) _ _ w.at-is w.more-is
    ] in
    range_less _ _ _ _ _ _ _ _ c.tokens.invariant.1 _ _ _
    e _
    c.token_of.ensures _ _ (c.in-Ok-Some.is ∙ ap Ok c.in-Ok-Some.field-0-is) _
    c.fill_region.ensures _ c.max-top.ensures c.if-not-more-2.false

pub tokens-preserved : goal.tokens-preserved
tokens-preserved c =
    -- how the inner loop was left
    let e : Ended c.args.style c.args.text.now c.tokens.at (part_of c.digits.part) c.digits-test.at c.digits-test.more =
    elim c.digits-test.branch [
      | else-digits-test w ↦ ended-left _ _ _ _ _ _ c.digits.invariant.0 w.digits-test.false (w.more-is ∙ c.digits.invariant.1) _
      | then-digits-test+in-Ends w ↦
          ended-comma _ _ _ _ _ _ _ c.digits.invariant.0 w.digits-test.true w.kind_of.ensures w.step_by-s.ensures (ap step_of w.in-Ends.is) _ _ w.at-is w.more-is
    ] in (
      _,
      range-more _ _ _ _ _ _ _ _ c.tokens.invariant.1 _ _ _
          e _
          c.token_of.ensures _ _ (c.in-Ok-Some.is ∙ ap Ok c.in-Ok-Some.field-0-is) _
          c.fill_region.ensures _ c.max-top.ensures c.if-not-more-2.false,
    )

pub shape_of-words-in-Stop : goal.shape_of-words-in-Stop
shape_of-words-in-Stop c = going_length _ _ _ _ _ _ _ _ c.tokens.invariant.1

pub returns-in-Stop : goal.returns-in-Stop
returns-in-Stop c =
    stops _ _ _ _ _ _ _ _ c.tokens.invariant.1 _
    (inside_stop _ _ _ _ _ _ _ c.digits.invariant.0 c.digits-test.true
    c.kind_of.ensures c.step_by-s.ensures _ (ap step_of c.in-Stop.is) _)

pub shape_of-words-else-not-more : goal.shape_of-words-else-not-more
shape_of-words-else-not-more c = going_length _ _ _ _ _ _ _ _ c.tokens.invariant.1

pub returns-else-not-more : goal.returns-else-not-more
returns-else-not-more c =
    -- how the inner loop was left
    let e : Ended c.args.style c.args.text.now c.tokens.at (part_of c.digits.part) c.digits-test.at c.digits-test.more =
    elim c.digits-test.branch [
      | else-digits-test w ↦ ended-left _ _ _ _ _ _ c.digits.invariant.0 w.digits-test.false (w.more-is ∙ c.digits.invariant.1) _
      | then-digits-test+in-Ends w ↦
          ended-comma _ _ _ _ _ _ _ c.digits.invariant.0 w.digits-test.true w.kind_of.ensures w.step_by-s.ensures (ap step_of w.in-Ends.is) _ _ w.at-is w.more-is
    ] in
    empty_inner _ _ _ _ _ _ _ _ c.tokens.invariant.1 _ _ _ e _
    c.token_of.ensures (c.in-Ok-None.is ∙ ap Ok c.in-Ok-None.field-0-is) c.if-not-more.false

pub shape_of-words-else-any : goal.shape_of-words-else-any
shape_of-words-else-any c = going_length _ _ _ _ _ _ _ _ c.tokens.invariant.1

pub returns-else-any : goal.returns-else-any
returns-else-any c =
    -- how the inner loop was left
    let e : Ended c.args.style c.args.text.now c.tokens.at (part_of c.digits.part) c.digits-test.at c.digits-test.more =
    elim c.digits-test.branch [
      | else-digits-test w ↦ ended-left _ _ _ _ _ _ c.digits.invariant.0 w.digits-test.false (w.more-is ∙ c.digits.invariant.1) _
      | then-digits-test+in-Ends w ↦
          ended-comma _ _ _ _ _ _ _ c.digits.invariant.0 w.digits-test.true w.kind_of.ensures w.step_by-s.ensures (ap step_of w.in-Ends.is) _ _ w.at-is w.more-is
    ] in
    empty_first _ _ _ _ _ _ _ _ c.tokens.invariant.1 _ _ _ e _
    c.token_of.ensures (c.in-Ok-None.is ∙ ap Ok c.in-Ok-None.field-0-is) c.if-any.false

pub shape_of-words-in-Err : goal.shape_of-words-in-Err
shape_of-words-in-Err c = going_length _ _ _ _ _ _ _ _ c.tokens.invariant.1

pub returns-in-Err : goal.returns-in-Err
returns-in-Err c =
    -- how the inner loop was left
    let e : Ended c.args.style c.args.text.now c.tokens.at (part_of c.digits.part) c.digits-test.at c.digits-test.more =
    elim c.digits-test.branch [
      | else-digits-test w ↦ ended-left _ _ _ _ _ _ c.digits.invariant.0 w.digits-test.false (w.more-is ∙ c.digits.invariant.1) _
      | then-digits-test+in-Ends w ↦
          ended-comma _ _ _ _ _ _ _ c.digits.invariant.0 w.digits-test.true w.kind_of.ensures w.step_by-s.ensures (ap step_of w.in-Ends.is) _ _ w.at-is w.more-is
    ] in
    none_at _ _ _ _ _ _ _ _ c.tokens.invariant.1 _ _ _ e _
    c.token_of.ensures _ c.in-Err.is
