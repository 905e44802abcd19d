-- One past the greatest member of a set, moved and cut.
use mathlib.Core.Path.{◌≡◌, ap}
use mathlib.Core.Bool.{Bool, true, false}
use Prim.Native.Nat.{ℕ, suc, ◌+◌, ◌-◌, ◌*◌, ◌≤◌}
use native.Mathlib.Omega.{arith}
use Rattle.word.specs.Sets.{top_below, Top}
use Rattle.word.proofs.Cases.{by_lt}
use Rattle.word.proofs.Sets.{top, top_is}
use Rattle.storage.specs.Stores.{Bits, Bounded, words_for, trimmed_count}
use Rattle.shifts.specs.Shifts.{moved_down}
use Rattle.shapes.specs.Shapes.{top_of}

-- t is one more than the greatest member of all; or it is 0, and there is none
pub record TopAt (s : ℕ → Bool) (t : ℕ) : Type 0 where
  pub last : (k : ℕ) → suc k ≡ t → s k ≡ true
  pub over : (k : ℕ) → t ≤ k → s k ≡ false

pub ends_of : (b : Bits) → Bounded b → TopAt b.members (top_of b)
ends_of b h = record {
  last = r.last;
  over = λ k l. by_lt k (64 * b.count) (λ m. r.over k l m) (λ m. h.past k m);
}
  where
    r : Top b.members (64 * b.count) (top_of b)
    r = top b.members (64 * b.count)

pub top_le : (b : Bits) → top_of b ≤ 64 * b.count
top_le b = (top b.members (64 * b.count)).within

module _ (s : ℕ → Bool) (t : ℕ) (e : TopAt s t) where
  ends_below : (m : ℕ) → t ≤ m → top_below s m ≡ t
  ends_below m h = top_is s m t (record { within = h; last = e.last; over = λ k a b. e.over k a })

  -- the words of a trimmed set, and its top again
  pub ends_count : (n : ℕ) → t ≤ 64 * n → trimmed_count s n ≡ words_for t
  unfolding trimmed_count
  ends_count n h = ap words_for (ends_below (64 * n) h)

  pub ends_top : (n : ℕ) → t ≤ 64 * n → top_below s (64 * trimmed_count s n) ≡ t
  unfolding words_for
  ends_top n h = ends_below (64 * trimmed_count s n) (omega (arith, ends_count n h))

  pub ends_down : (p : ℕ) → TopAt (moved_down p s) (t - p)
  unfolding moved_down
  ends_down p = record { last = λ k q. e.last (k + p) (omega arith); over = λ k l. e.over (k + p) (omega arith) }
