-- The definitions by their cases: a region flipped, and members moved up.
use mathlib.Core.Path.{◌≡◌}
use Prim.Native.Nat.{ℕ, ◌+◌, ◌-◌, ◌/◌, ◌^◌, ◌≤◌, ◌<◌, max}
use borrow.Author.Tests.{le-ltb, lt-ltb, eq-eqb, ne_eqb}
use Rattle.word.specs.Sets.{xorb}
use Rattle.storage.specs.Stores.{Bits, refused, done, Space, within, in_region, words_for}
use Rattle.storage.specs.declared.Refusal.TheVariants.{IndexOver}
use Rattle.shifts.specs.Shifts.{moved_up}
use Rattle.shapes.specs.Shapes.{toggling_region, top_of, raising}

-- ---- `toggle_region`

abbrev pub flipped_region : ℕ → ℕ → Bits → Bits
flipped_region i k b = record { members = λ j. xorb (b.members j) (in_region i k j); count = max b.count ((i + k - 1) / 64 + 1) }

module _ (i k : ℕ) (c : Space) (b : Bits) where
  pub region_none : k ≡ 0 → toggling_region i k c b ≡ done b
  unfolding toggling_region
  region_none e = rw (eq-eqb k 0 e)

  pub region-over : (k ≡ 0 → ⊥) → 2 ^ 64 < i + k → toggling_region i k c b ≡ refused IndexOver
  unfolding toggling_region
  region-over n h = rw (ne_eqb k 0 n, lt-ltb (2 ^ 64) (i + k) h)

  pub region-put : (k ≡ 0 → ⊥) → i + k ≤ 2 ^ 64 → toggling_region i k c b ≡ within c (flipped_region i k b)
  unfolding toggling_region
  region-put n h = rw (ne_eqb k 0 n, le-ltb (2 ^ 64) (i + k) h)

-- ---- `shift_left`

abbrev pub raised : ℕ → Bits → Bits
raised k b = record { members = moved_up k b.members; count = max b.count (words_for (top_of b + k)) }

module _ (k : ℕ) (c : Space) (b : Bits) where
  pub raise_none : top_of b ≡ 0 → raising k c b ≡ done b
  unfolding raising
  raise_none e = rw (eq-eqb (top_of b) 0 e)

  pub raise_over : (top_of b ≡ 0 → ⊥) → 2 ^ 64 < top_of b + k → raising k c b ≡ refused IndexOver
  unfolding raising
  raise_over n h = rw (ne_eqb (top_of b) 0 n, lt-ltb (2 ^ 64) (top_of b + k) h)

  pub raise_put : (top_of b ≡ 0 → ⊥) → top_of b + k ≤ 2 ^ 64 → raising k c b ≡ within c (raised k b)
  unfolding raising
  raise_put n h = rw (ne_eqb (top_of b) 0 n, le-ltb (2 ^ 64) (top_of b + k) h)
