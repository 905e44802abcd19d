-- From the shorter slice's end on, below m, the words become the longer one's.
use mathlib.Core.Path.{◌≡◌, ap}
use mathlib.Core.Logic.{◌⊎◌, inl, inr}
use Prim.Native.Nat.{◌≤◌}
use native.Mathlib.Omega.{arith}
use lib.ListN.{length}
use Rattle.combine.proofs.Writes.{tail_put}
use Rattle.combine.proofs.kernels.copy_tail.Goals as goal
use Rattle.combine.proofs.kernels.copy_tail.Goals.{then-left-both, else-left-both}

pub returns-after-left-both : goal.returns-after-left-both
returns-after-left-both c =
    let a = c.args in
    let longer = c.if-left-both.longer.now in
    let both = c.min-both.result in
    let which : ((longer ≡ a.left.now) × (length a.right.now ≤ both)) ⊎ ((longer ≡ a.right.now) × (length a.left.now ≤ both)) =
    elim c.if-left-both.branch [ then-left-both w ↦ inl (ap (λ r. r.now) w.longer-is, omega (arith, w.if-left-both.true, c.min-both.ensures)) | else-left-both w ↦ inr (ap (λ r. r.now) w.longer-is, w.if-left-both.false) ] in
    tail_put _ _ (λ k. (c.type_inv.left k).fits) (λ k. (c.type_inv.right k).fits) longer _ _ a.m both (omega arith) c.min-both.ensures (omega arith) (omega arith)
    which c.copy_from_slice.ensures.after
