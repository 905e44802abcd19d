-- The guard, then a trim where no member is from p on, then 4, then 6, then growth, and bits from p on go k up: what splitting, a shift and `or` make.
use mathlib.Core.Path.{◌≡◌, sym, ap, ◌∙◌}
use Prim.Native.Nat.{suc}
use native.Mathlib.Omega.{arith}
use Rattle.std.specs.Prelude.{Ok, Err}
use Rattle.storage.specs.Stores.{held}
use Rattle.storage.specs.Guards.{Passed}
use Rattle.std.proofs.Common.{rules}
use Rattle.storage.proofs.Checks.{mapped_ok, mapped_err}
use Rattle.storage.proofs.Grows.{no_room}
use Rattle.storage.proofs.Stores.{changes_raised}
use Rattle.shapes.specs.Shapes.{top_of}
use Rattle.scans.proofs.Lasts.{last-refused, last-nothing, last-at}
use Rattle.gap.proofs.Calls.{open_trims, open_refused, open_no_space, open_changes}
use Rattle.gap.proofs.open_gap.Goals.{In-Some, in_default-via-in-Some+else-i-p, in_default-via-in_default}
use Rattle.gap.proofs.open_gap.Goals as goal

-- where there is a highest bit from p on
found : (c : In-Some) → Passed c.args.words.now c.args.b × (top_of (held c.args.words.now c.args.b) ≡ suc c.in-Some.i)
found c = last-at _ _ _ (sym (ap Ok c.in-Some.is) ∙ mapped_ok _ c.map_err.ensures.cases c.in_ok-i.was ∙ c.last_set.ensures)

pub returns-in_err-i : goal.returns-in_err-i
returns-in_err-i c =
    let m = mapped_err (λ e. (e, c.args.b)) c.in_err-i.was c.map_err.ensures.cases (λ e d h. search rules) in
    changes_raised _ _ _ c.from_residual.ensures (ap Err m.2 ∙ last-refused _ _ _ (m.1 ∙ c.last_set.ensures))

pub returns-in_default : goal.returns-in_default
returns-in_default c =
    elim c.in_default.branch [
      | in_default-via-in-Some+else-i-p w ↦
          let q = last-at _ _ _ (sym (ap Ok w.in-Some.is) ∙ mapped_ok _ c.map_err.ensures.cases c.in_ok-i.was ∙ c.last_set.ensures) in
          open_trims _ _ _ _ q.0 _ (omega (arith, q.1, w.if-i-p.false)) c.trim.ensures
      | in_default-via-in_default w ↦
          let q = last-nothing _ _ (sym (ap Ok w.in_default.is) ∙ mapped_ok _ c.map_err.ensures.cases c.in_ok-i.was ∙ c.last_set.ensures) in
          open_trims _ _ _ _ q.0 _ (omega (arith, q.1)) c.trim.ensures
    ]

pub returns-in_default-checked_add : goal.returns-in_default-checked_add
returns-in_default-checked_add c =
    let top = found (goal.at.returns-in_default-checked_add c).In-Some in
    open_refused _ _ _ _ top.0 _ top.1 (omega arith) (omega (arith, c.in_default-checked_add.ensures))

pub returns-in_err-m : goal.returns-in_err-m
returns-in_err-m c =
    let top = found (goal.at.returns-in_err-m c).In-Some in
    let s = c.in-Some-checked_add.ensures in
    let g = c.in_err-m.ensures in
    no_room _ _ _ _ _ c.from_residual-in_err-m.ensures g (open_no_space _ _ _ _ top.0 _ top.1 (omega arith) s.0 (omega (arith, s.1, g)))

pub returns : goal.returns
returns c =
    let top = found (goal.at.returns c).In-Some in
    let s = c.in-Some-checked_add.ensures in
    let g = c.in_ok-m.ensures in
    rw s.1
    (open_changes _ _ _ _ top.0 _ top.1 (omega arith) s.0 _ _ _ (omega (arith, s.1, g)) (rw s.1 at g.1) (rw s.1 at g.2) c.open_words.ensures)
