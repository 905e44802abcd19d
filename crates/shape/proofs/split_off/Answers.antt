-- The first store's guard, the second's, then 6, then the bits from `at` on are in the tail and those below stay, both without trailing zero words.
use Rattle.shape.proofs.Splits.{tail_told_refused, tail_told, tail_inside, split_stopped, split_second, split_no_space, split_done}
use Rattle.storage.specs.Stores.{held, no_words}
use Rattle.storage.specs.Guards.{Passed}
use Rattle.std.proofs.Common.{rules, Err}
use Rattle.storage.proofs.Checks.{passed, raised, mapped_ok, mapped_err}
use Rattle.storage.specs.declared.Refused.{Refused}
use Rattle.shapes.specs.Shapes.{lowered}
use lib.Seq.{length-take-le}
use native.Mathlib.Omega.{arith}
use mathlib.Core.Path.{◌≡◌, ap, ◌∙◌}
use Rattle.shape.proofs.split_off.Goals.{In_ok-m, In_ok-map_err}
use Rattle.shape.proofs.split_off.Goals as goal

-- where the first store passes, and the tail is measured
measured : (c : In_ok-m) → let a = c.args in Passed a.words.now a.b × (c.in_ok-m.m ≡ (lowered a.at (held a.words.now a.b)).count)
measured c = tail_told _ _ _ _ (mapped_ok _ c.map_err.ensures.cases c.in_ok-m.was ∙ c.tail_len.ensures)

-- and the tail's store passes
both : (c : In_ok-map_err) → Passed c.args.tail.now no_words
both c = passed _ _ (mapped_ok _ c.map_err-2.ensures.cases c.in_ok-map_err.was ∙ c.check.ensures)

pub returns-in_err-m : goal.returns-in_err-m
returns-in_err-m c =
    let m = mapped_err (λ e. (e, c.args.b)) c.in_err-m.was c.map_err.ensures.cases (λ e d h. search rules) in
    let r = raised c.from_residual.ensures ∙ ap Err m.2 in
    rw r (split_stopped _ _ _ _ _ (tail_told_refused _ _ _ _ (m.1 ∙ c.tail_len.ensures)))

pub returns-in_err-map_err : goal.returns-in_err-map_err
returns-in_err-map_err c =
    let t = measured (goal.at.returns-in_err-map_err c).In_ok-m in
    let m = mapped_err (λ (e : Refused). (e.0, c.args.b)) c.in_err-map_err.was c.map_err-2.ensures.cases (λ e d h. search rules) in
    let r = raised c.from_residual-in_err-map_err.ensures ∙ ap Err m.2 in
    rw r (split_second _ _ _ _ t.0 _ (m.1 ∙ c.check.ensures))

pub returns-then-m-tail : goal.returns-then-m-tail
returns-then-m-tail c =
    let k = goal.at.returns-then-m-tail c in
    let t = measured k.In_ok-m in
    split_no_space _ _ _ _ t.0 (both k.In_ok-map_err) _ t.1 (omega arith)

pub lower_into-requires : goal.lower_into-requires
lower_into-requires c =
    let t = measured (goal.at.lower_into-requires c).In_ok-m in
    let a = c.args in
    omega (arith, length-take-le c.in_ok-m.m a.tail.now (omega arith), length-take-le a.b.count a.words.now t.0.inside, t.1, tail_inside a.words.now a.b a.at)

pub returns : goal.returns
returns c =
    let k = goal.at.returns c in
    let t = measured k.In_ok-m in
    split_done _ _ _ _ t.0 (both k.In_ok-map_err) _ _ _ _ t.1 (omega arith) (search arith)
    c.lower_into.ensures c.fill_region.ensures c.nonzero_len.ensures
