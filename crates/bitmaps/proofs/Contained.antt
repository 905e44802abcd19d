-- Results of the operations have space and hold no member past their words.
use mathlib.Core.Path.{◌≡◌, refl, sym, ap, ap₂, ◌∙◌}
use mathlib.Core.Bool.{Bool, true, false, ◌&&◌, ◌||◌}
use mathlib.Core.List.{List}
use Prim.Native.Nat.{ℕ, suc, ◌+◌, ◌-◌, ◌*◌, ◌/◌, ◌%◌, ◌^◌, ◌≤◌, max}
use native.Mathlib.Omega.{arith}
use lib.Dec.{leb, eqb}
use borrow.Author.Tests.{le-ltb, ne_eqb}
use Rattle.word.specs.Sets.{choose}
use Rattle.word.specs.Places.{bit, word_of}
use Rattle.word.proofs.Cases.{by_lt, by_eq, by_test, and-false}
use Rattle.storage.specs.Stores.{Bits, Bounded, refused, Op, flipped, in_region, trimmed}
use Rattle.storage.specs.Promises.{Contained}
use Rattle.storage.specs.declared.Refusal.{Refusal}
use Rattle.storage.specs.declared.Refusal.TheVariants.{WidthOver, IndexOver}
use Rattle.storage.proofs.Outcomes.{never, bounded_flipped, contained_within, contained_done}
use Rattle.storage.proofs.Trims.{bounded_trimmed}
use Rattle.storage.proofs.Promises.{least_count}
use Rattle.bitmaps.specs.Bitmaps.{trimming, setting, without, unsetting, is_listed, reach_of, setting_many, setting_region, setting_field, tidied, alone, keeping_bit, dropping_bit, flipping_bit}
use Rattle.bitmaps.proofs.Cases.{reach_in, listed_who}
use Rattle.bitmaps.proofs.Cases.{region_none, region-over, region-put}
use Rattle.bitmaps.proofs.Cases.{field-wide, field-over, field_some, field_cleared}

pub contained_setting : (i : ℕ) → Contained (setting i)
unfolding setting
contained_setting i =
    contained_within (setting i) (λ b. record { members = λ j. b.members j || eqb j i; count = max b.count (i / 64 + 1) }) (λ c b. refl)
    (λ b h. record { past = λ j l. ap₂ (λ (x y : Bool). x || y) (h.past j (omega arith)) (ne_eqb j i (omega arith)) })

pub contained_setting_many : (is : List ℕ) → Contained (setting_many is)
unfolding setting_many
contained_setting_many is =
    contained_within (setting_many is) (λ b. record { members = λ j. b.members j || is_listed is j; count = max b.count (reach_of is) }) (λ c b. refl)
    (λ b h. record { past = λ j l. ap₂ (λ (x y : Bool). x || y) (h.past j (omega arith)) (unlisted j (omega arith)) })
  where
    unlisted : (j : ℕ) → 64 * reach_of is ≤ j → is_listed is j ≡ false
    unlisted j l = by_test (is_listed is j) (λ y. let r = listed_who is j y in absurd (omega (arith, reach_in is r.0 r.1.0, r.1.1))) (λ n. n)

pub contained_trimming : Contained trimming
unfolding trimming
contained_trimming = contained_done trimming trimmed (λ c b. refl) (λ b. omega (arith, (least_count b.members b.count).low)) bounded_trimmed

-- ---- a region

region : ℕ → Bool → ℕ → Bits → Bits
region i v k b = record { members = λ p. choose (in_region i k p) v (b.members p); count = choose v (max b.count ((i + k - 1) / 64 + 1)) b.count }

bounded_region : (i k : ℕ) (v : Bool) → (k ≡ 0 → ⊥) → (b : Bits) → Bounded b → Bounded (region i v k b)
unfolding region
bounded_region i k true some b h = record {
  past = λ j l.
      ap (λ (t : Bool). choose (leb i j && t) true (b.members j)) (le-ltb j (i + k) (omega arith))
      ∙ ap (λ (t : Bool). choose t true (b.members j)) (and-false (leb i j)) ∙ h.past j (omega arith);
}
bounded_region i k false some b h =
    record { past = λ j l. by_test (in_region i k j) (λ y. ap (λ (t : Bool). choose t false (b.members j)) y) (λ n. ap (λ (t : Bool). choose t false (b.members j)) n ∙ h.past j l) }

-- an operation that is always refused
contained_never : (op : Op) (e : Refusal) → ((c : ℕ) (b : Bits) → op c b ≡ refused e) → Contained op
contained_never op e f = record {
  space = λ c b s h m q. absurd (never (sym q ∙ f c b));
  bound = λ c b s h m q. absurd (never (sym q ∙ f c b));
}

pub contained_setting_region : (i : ℕ) (v : Bool) (k : ℕ) → Contained (setting_region i v k)
unfolding region
contained_setting_region i v k =
    by_eq k 0
    (λ z. contained_done (setting_region i v k) (λ b. b) (λ c b. region_none i k c v b z) (λ b. omega arith) (λ b h. h))
    (λ some. by_lt (2 ^ 64) (i + k)
    (λ l. contained_never (setting_region i v k) IndexOver (λ c b. region-over i k c v b some l))
    (λ l. contained_within (setting_region i v k) (region i v k) (λ c b. region-put i k c v b some l) (bounded_region i k v some)))

-- ---- a field

pub contained_setting_field : (i value width : ℕ) → Contained (setting_field i value width)
contained_setting_field i value width =
    by_lt 64 width
    (λ h. contained_never (setting_field i value width) WidthOver (λ c b. field-wide i value width c b h))
    (λ h. by_eq (value % 2 ^ width) 0
    (λ z. record {
      space = λ c b s k l q. (contained_setting_region i false width).space c b s k l (sym (field_cleared i value width c b h z) ∙ q);
      bound = λ c b s k l q. (contained_setting_region i false width).bound c b s k l (sym (field_cleared i value width c b h z) ∙ q);
    })
    (λ some. by_eq width 0
    (λ z. absurd (some (ap (λ (w : ℕ). value % 2 ^ w) z ∙ omega arith)))
    (λ n. by_lt (2 ^ 64) (i + width)
    (λ l. contained_never (setting_field i value width) IndexOver (λ c b. field-over i value width c b h n l))
    (λ l. contained_within (setting_field i value width) with (λ c b. field_some i value width c b (record { wide = h; some = some; pos = omega arith }) l)
    (λ b k. record {
      past = λ j m.
          ap (λ (t : Bool). choose (leb i j && t) (bit value (j - i)) (b.members j)) (le-ltb j (i + width) (omega arith))
          ∙ ap (λ (t : Bool). choose t (bit value (j - i)) (b.members j)) (and-false (leb i j)) ∙ k.past j (omega arith);
    })))))
  where
    with : Bits → Bits
    with b = record { members = λ p. choose (in_region i width p) (bit value (p - i)) (b.members p); count = max b.count ((i + width - 1) / 64 + 1) }

-- ---- one word worked on, and tidied

pub tidied-le : (k : ℕ) (t : Bits) → (tidied k t).count ≤ t.count
unfolding tidied
tidied-le k t = fewer (eqb (suc k) t.count && eqb (word_of t.members k) 0)
  where
    fewer : (x : Bool) → (choose x (trimmed t) t).count ≤ t.count
    fewer true = omega (arith, (least_count t.members t.count).low)
    fewer false = omega arith

bounded_tidied : (k : ℕ) (t : Bits) → Bounded t → Bounded (tidied k t)
unfolding tidied
bounded_tidied k t h = either (eqb (suc k) t.count && eqb (word_of t.members k) 0)
  where
    either : (x : Bool) → Bounded (choose x (trimmed t) t)
    either true = bounded_trimmed t h
    either false = h

-- no member stays none, whatever else is asked of it
none_and : {a : Bool} (t : Bool) → a ≡ false → a && t ≡ false
none_and t e = ap (λ (x : Bool). x && t) e

pub contained_keeping : (i : ℕ) → Contained (keeping_bit i)
unfolding keeping_bit
contained_keeping i =
    contained_done (keeping_bit i) (λ b. tidied (i / 64) (alone i b)) (λ c b. refl) (λ b. omega (arith, tidied-le (i / 64) (alone i b)))
    (λ b h. bounded_tidied (i / 64) (alone i b) (record { past = λ j l. none_and _ (h.past j (omega arith)) }))

bounded_without : (i : ℕ) (b : Bits) → Bounded b → Bounded (without i b)
bounded_without i b h = record { past = λ j l. none_and _ (h.past j (omega arith)) }

pub contained_dropping : (i : ℕ) → Contained (dropping_bit i)
unfolding dropping_bit
contained_dropping i =
    contained_done (dropping_bit i) (λ b. tidied (i / 64) (without i b)) (λ c b. refl) (λ b. omega (arith, tidied-le (i / 64) (without i b)))
    (λ b h. bounded_tidied (i / 64) (without i b) (bounded_without i b h))

pub contained_unsetting : (i : ℕ) → Contained (unsetting i)
unfolding unsetting
contained_unsetting i = contained_done (unsetting i) (without i) (λ c b. refl) (λ b. omega arith) (bounded_without i)

pub contained_flipping : (i : ℕ) → Contained (flipping_bit i)
unfolding flipping_bit
contained_flipping i =
    contained_within (flipping_bit i) (λ b. tidied (i / 64) (flipped i b)) (λ c b. refl) (λ b h. bounded_tidied (i / 64) (flipped i b) (bounded_flipped i b h))
