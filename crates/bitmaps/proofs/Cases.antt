-- The definitions by their cases: listed bits, a region, a field.
use mathlib.Core.Path.{◌≡◌, refl, sym, ap, ◌∙◌, fun_ext}
use mathlib.Core.Bool.{Bool, true, false, ◌||◌, false≢true, ◌&&◌}
use mathlib.Core.List.{List, [], ◌∷◌}
use Prim.Native.Nat.{ℕ, zero, suc, ◌+◌, ◌/◌, ◌%◌, ◌^◌, ◌≤◌, ◌<◌, max, ◌-◌}
use native.Mathlib.Omega.{arith}
use native.Mathlib.Nat.{mod-lt}
use lib.ListN.{length, get_or}
use lib.Dec.{eqb, leb, ltb}
use lib.Pow.{pow_pos}
use borrow.Author.Tests.{eq-eqb, ne_eqb, lt-ltb, le-ltb, le-leb, lt-leb}
use Rattle.word.specs.Places.{bit}
use Rattle.word.specs.Sets.{choose, least_from}
use Rattle.word.proofs.Cases.{by_lt, by_eq, or-true}
use Rattle.word.proofs.Places.{bit-mod, bit-zero, no_bits}
use Rattle.word.proofs.Sets.{least}
use Rattle.word.proofs.Words.{least_bit}
use Rattle.storage.specs.Stores.{Bits, refused, done, within, in_region, passes}
use Rattle.storage.specs.declared.Refusal.TheVariants.{IndexOver, WidthOver}
use Rattle.bitmaps.specs.Bitmaps.{is_listed, reach_of, setting_region, setting_field}

-- ---- listed bits

-- a listed bit lies within the reach
pub reach_in : (is : List ℕ) (t : ℕ) → t < length is → get_or is t 0 / 64 < reach_of is
unfolding reach_of
reach_in [] t h = absurd (omega arith)
reach_in (i ∷ is) zero h = omega arith
reach_in (i ∷ is) (suc t) h = let e = reach_in is t (omega arith) in omega (arith, e)

-- and there is no reach but to a listed bit
pub reach_who : (is : List ℕ) (c : ℕ) → c < reach_of is → (t : ℕ) × ((t < length is) × (c ≤ get_or is t 0 / 64))
unfolding reach_of
reach_who [] c h = absurd (omega arith)
reach_who (i ∷ is) c h =
    by_lt c (i / 64 + 1) (λ l. (zero, (omega arith, omega arith)))
    (λ l. let r = reach_who is c (omega arith) in (suc r.0, (omega (arith, r.1.0), r.1.1)))

pub reach_under : (is : List ℕ) (n : ℕ) → ((t : ℕ) → t < length is → get_or is t 0 / 64 < n) → reach_of is ≤ n
reach_under is n h = by_lt n (reach_of is) (λ l. let r = reach_who is n l in absurd (omega (arith, h r.0 r.1.0, r.1.1))) (λ l. l)

pub listed_at : (is : List ℕ) (t : ℕ) → t < length is → is_listed is (get_or is t 0) ≡ true
unfolding is_listed
listed_at [] t h = absurd (omega arith)
listed_at (i ∷ is) zero h = ap (λ (x : Bool). x || is_listed is i) (eq-eqb i i refl)
listed_at (i ∷ is) (suc t) h = ap (λ (x : Bool). eqb (get_or is t 0) i || x) (listed_at is t (omega arith)) ∙ or-true (eqb (get_or is t 0) i)

pub listed_who : (is : List ℕ) (j : ℕ) → is_listed is j ≡ true → (t : ℕ) × ((t < length is) × (get_or is t 0 ≡ j))
unfolding is_listed
listed_who [] j h = absurd (false≢true h)
listed_who (i ∷ is) j h =
    by_eq j i (λ e. (zero, (omega arith, sym e)))
    (λ n. let r = listed_who is j (sym (ap (λ (x : Bool). x || is_listed is j) (ne_eqb j i n)) ∙ h) in (suc r.0, (omega (arith, r.1.0), r.1.1)))

-- ---- a region

module _ (i k c : ℕ) (v : Bool) (b : Bits) where
  pub region_none : k ≡ 0 → setting_region i v k c b ≡ done b
  unfolding setting_region
  region_none e = rw (eq-eqb k 0 e)

  pub region-over : (k ≡ 0 → ⊥) → 2 ^ 64 < i + k → setting_region i v k c b ≡ refused IndexOver
  unfolding setting_region
  region-over n h = rw (ne_eqb k 0 n, lt-ltb (2 ^ 64) (i + k) h)

  pub region-put : (k ≡ 0 → ⊥) → i + k ≤ 2 ^ 64
      → setting_region i v k c b
      ≡ within c (record { members = λ p. choose (in_region i k p) v (b.members p); count = choose v (max b.count ((i + k - 1) / 64 + 1)) b.count })
  unfolding setting_region
  region-put n h = rw (ne_eqb k 0 n, le-ltb (2 ^ 64) (i + k) h)

-- ---- a field

-- the digits of a field that is 0, and a digit of one that is not
pub zero_digit_lem : (value width : ℕ) → value % 2 ^ width ≡ 0 → (j : ℕ) → j < width → bit value j ≡ false
zero_digit_lem value width z j l = sym (bit-mod value width j l) ∙ ap (λ (x : ℕ). bit x j) z ∙ bit-zero j

pub no_digits : (value width : ℕ) → ((j : ℕ) → j < width → bit value j ≡ false) → value % 2 ^ width ≡ 0
no_digits value width none = no_bits width (value % 2 ^ width) (mod-lt value (pow_pos width)) (λ j l. bit-mod value width j l ∙ none j l)

pub some_at : (value width : ℕ) → (value % 2 ^ width ≡ 0 → ⊥) → (j : ℕ) × (j < width) × (bit value j ≡ true)
some_at value width some = (p, l, sym (bit-mod value width p l) ∙ (least (bit x) 0 width).here (omega (arith, l)))
  where
    x : ℕ
    x = value % 2 ^ width

    p : ℕ
    p = least_from (bit x) 0 width

    l : p < width
    l = least_bit width x (by_eq x 0 (λ e. absurd (some e)) (λ e. omega arith)) (mod-lt value (pow_pos width))

-- a value with a digit in the field
pub record Some (value width : ℕ) : Type 0 where
  pub wide : width ≤ 64
  pub some : value % 2 ^ width ≡ 0 → ⊥
  pub pos : 0 < width

module _ (i value width c : ℕ) (b : Bits) where
  -- the bitmap with the field, in n words
  abbrev with : ℕ → Bits
  with n = record { members = λ p. choose (in_region i width p) (bit value (p - i)) (b.members p); count = n }

  pub field-wide : 64 < width → setting_field i value width c b ≡ refused WidthOver
  unfolding setting_field
  field-wide h = rw (lt-ltb 64 width h)

  pub field-over : width ≤ 64 → (width ≡ 0 → ⊥) → 2 ^ 64 < i + width → setting_field i value width c b ≡ refused IndexOver
  unfolding setting_field
  field-over l n h = rw (le-ltb 64 width l, ne_eqb width 0 n, lt-ltb (2 ^ 64) (i + width) h)

  pub field_put : width ≤ 64 → (width ≡ 0 → ⊥) → i + width ≤ 2 ^ 64
      → setting_field i value width c b ≡ within c (with (choose (eqb (value % 2 ^ width) 0) b.count (max b.count ((i + width - 1) / 64 + 1))))
  unfolding setting_field
  field_put l n h = rw (le-ltb 64 width l, ne_eqb width 0 n, le-ltb (2 ^ 64) (i + width) h)

  pub field_some : Some value width → i + width ≤ 2 ^ 64 → setting_field i value width c b ≡ within c (with (max b.count ((i + width - 1) / 64 + 1)))
  field_some d h =
      field_put d.wide (omega (arith, d.pos)) h
      ∙ ap (λ (t : Bool). within c (with (choose t b.count (max b.count ((i + width - 1) / 64 + 1))))) (ne_eqb (value % 2 ^ width) 0 d.some)

  -- a field of zeros is a region cleared
  pub field_cleared : width ≤ 64 → value % 2 ^ width ≡ 0 → setting_field i value width c b ≡ setting_region i false width c b
  unfolding setting_field setting_region
  field_cleared l z =
      rw (le-ltb 64 width l, eq-eqb (value % 2 ^ width) 0 z)
      (ap (λ (s : ℕ → Bool). choose (eqb width 0) (done b) (choose (passes i width) (refused IndexOver) (within c (record { members = s; count = b.count })))) (fun_ext at))
    where
      at : (p : ℕ) → choose (leb i p && ltb p (i + width)) (bit value (p - i)) (b.members p) ≡ choose (leb i p && ltb p (i + width)) false (b.members p)
      at p =
          by_lt p i
          (λ h. rw (lt-leb i p h))
          (λ h. by_lt p (i + width)
          (λ k. rw (le-leb i p h, lt-ltb p (i + width) k) (zero_digit_lem value width z (p - i) (omega arith)))
          (λ k. rw (le-leb i p h, le-ltb p (i + width) k)))
