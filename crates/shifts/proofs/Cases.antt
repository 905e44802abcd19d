-- The definitions by their cases.
use mathlib.Core.Path.{◌≡◌, ap}
use mathlib.Core.Bool.{Bool, false, ◌&&◌}
use Prim.Native.Nat.{ℕ, ◌-◌, ◌≤◌, ◌<◌}
use borrow.Author.Tests.{le-leb, lt-leb}
use Rattle.shifts.specs.Shifts.{moved_up}

pub moved_up_lem : (k : ℕ) (s : ℕ → Bool) (i : ℕ) → k ≤ i → moved_up k s i ≡ s (i - k)
unfolding moved_up
moved_up_lem k s i h = ap (λ (t : Bool). t && s (i - k)) (le-leb k i h)

-- nothing moves in below k
pub moved_in : (k : ℕ) (s : ℕ → Bool) (i : ℕ) → i < k → moved_up k s i ≡ false
unfolding moved_up
moved_in k s i h = ap (λ (t : Bool). t && s (i - k)) (lt-leb k i h)
