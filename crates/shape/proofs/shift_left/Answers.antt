-- The guard, then no change with no member, then 4, then 6, then growth to the highest one's word, and every bit goes k up.
use Rattle.shape.proofs.Moves.{left-nothing, left_over, left_no_space, left-changes}
use Rattle.scans.proofs.Lasts.{last-refused, last-nothing, last-at}
use Rattle.std.proofs.Common.{rules, Ok, Err}
use Rattle.storage.proofs.Checks.{mapped_ok, mapped_err}
use Rattle.storage.proofs.Grows.{no_room}
use Rattle.storage.proofs.Stores.{changes_raised}
use native.Mathlib.Omega.{arith}
use Prim.Native.Nat.{suc}
use Rattle.storage.specs.Stores.{held}
use Rattle.storage.specs.Guards.{Passed}
use Rattle.shapes.specs.Shapes.{top_of}
use mathlib.Core.Path.{◌≡◌, sym, ap, ◌∙◌}
use Rattle.shape.proofs.shift_left.Goals.{In-Some}
use Rattle.shape.proofs.shift_left.Goals as goal

-- where there is a highest bit
found : (c : In-Some) → Passed c.args.words.now c.args.b × (top_of (held c.args.words.now c.args.b) ≡ suc c.in-Some.top)
found c = last-at _ _ _ (sym (ap Ok c.in-Some.is) ∙ mapped_ok _ c.map_err.ensures.cases c.in_ok-top.was ∙ c.last_set.ensures)

pub returns-in_err-top : goal.returns-in_err-top
returns-in_err-top c =
    let m = mapped_err (λ e. (e, c.args.b)) c.in_err-top.was c.map_err.ensures.cases (λ e d h. search rules) in
    changes_raised _ _ _ c.from_residual.ensures (ap Err m.2 ∙ last-refused _ _ _ (m.1 ∙ c.last_set.ensures))

pub returns-in_default : goal.returns-in_default
returns-in_default c =
    let q = last-nothing _ _ (sym (ap Ok c.in_default.is) ∙ mapped_ok _ c.map_err.ensures.cases c.in_ok-top.was ∙ c.last_set.ensures) in
    left-nothing _ _ _ (search arith) q.0 q.1

pub returns-in_default-checked_add : goal.returns-in_default-checked_add
returns-in_default-checked_add c =
    let top = found (goal.at.returns-in_default-checked_add c).In-Some in
    left_over _ _ _ (search arith) top.0 _ top.1 (omega (arith, c.in_default-checked_add.ensures))

pub returns-in_err-grown : goal.returns-in_err-grown
returns-in_err-grown c =
    let top = found (goal.at.returns-in_err-grown c).In-Some in
    let s = c.in-Some-checked_add.ensures in
    let g = c.in_err-grown.ensures in
    no_room _ _ _ _ _ c.from_residual-in_err-grown.ensures g (left_no_space _ _ _ (search arith) top.0 _ top.1 s.0 (omega (arith, s.1, g)))

pub returns : goal.returns
returns c =
    let top = found (goal.at.returns c).In-Some in
    let s = c.in-Some-checked_add.ensures in
    let g = c.in_ok-grown.ensures in
    left-changes _ _ _ (search arith) top.0 _ top.1 _ _ _ s.0 (omega (arith, s.1, g)) (rw s.1 at g.1) (rw s.1 at g.2) c.left_words.ensures
