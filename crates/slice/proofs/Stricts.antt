-- A strict field written to one word or to two neighbouring ones.
use mathlib.Core.Path.{◌≡◌, refl, sym, ap, ap₂, ◌∙◌, subst}
use mathlib.Core.Bool.{Bool, true, false, not, ◌&&◌, ◌||◌}
use mathlib.Core.List.{List}
use mathlib.Core.Logic.{◌⊎◌, inl, inr}
use Prim.Native.Nat.{ℕ, ◌+◌, ◌-◌, ◌*◌, ◌/◌, ◌%◌, ◌^◌, ◌≤◌, ◌<◌}
use native.Mathlib.Omega.{arith}
use lib.ListN.{length, get_or, set, length-set}
use lib.Seq.{get_or-set_other}
use lib.Bits.{bit_and, bit_or, and_lt, or_lt}
use lib.Pow.{ones_sub-lt}
use lib.Dec.{ltb, leb}
use borrow.Author.Tests.{lt-ltb, le-ltb, le-leb, lt-leb, eq-eqb, ne_eqb}
use Rattle.word.specs.Sets.{choose}
use Rattle.word.specs.Places.{bit}
use Rattle.word.specs.Words.{low_mask}
use Rattle.word.proofs.Cases.{by_lt, by_eq, and-false}
use Rattle.word.proofs.Places.{bit-and, bit-or, bit_not, bit-shr, bit-shl-mod, pack-lt, bit-pack, pack_is}
use Rattle.word.proofs.Words.{bit-low_mask}
use Rattle.word.proofs.Lists.{Fit}
use Rattle.word.proofs.Sweep.{get_d_set}
use Rattle.storage.specs.Stores.{refused, done, view, Changes}
use Rattle.storage.specs.Guards.{Passed}
use Rattle.storage.specs.declared.Bitmap.{Bitmap}
use Rattle.storage.specs.declared.Refusal.TheVariants.{WidthOver, PastLength}
use Rattle.storage.proofs.Views.{view_in}
use Rattle.storage.proofs.Stores.{Stored, changes-refused, changes_done}
use Rattle.slice.specs.Slices.{with_field, setting_field_inside}
use Rattle.slice.specs.Kernels.{overlaid}
use Rattle.storage.specs.Refusals.{refusing}
use Rattle.std.specs.Prelude.{Ok}

-- ---- a word overlaid

pub overlay_is : (old x mask : ℕ) → old < 2 ^ 64 → x < 2 ^ 64 → mask < 2 ^ 64 → bit_or (bit_and old ((2 ^ 64 - 1) - mask)) (bit_and x mask) ≡ overlaid old x mask
unfolding overlaid
overlay_is old x mask ho hx hm =
    pack_is 64 (bit_or (bit_and old ((2 ^ 64 - 1) - mask)) (bit_and x mask)) (λ j. choose (bit mask j) (bit x j) (bit old j))
    (or_lt 64 (bit_and old ((2 ^ 64 - 1) - mask)) (bit_and x mask) (and_lt 64 old ((2 ^ 64 - 1) - mask) ho (ones_sub-lt 64 mask)) (and_lt 64 x mask hx hm))
    (λ j l.
    bit-or (bit_and old ((2 ^ 64 - 1) - mask)) (bit_and x mask) j
    ∙ ap₂ (λ (a b : Bool). a || b)
    (bit-and old ((2 ^ 64 - 1) - mask) j ∙ ap (λ (t : Bool). bit old j && t) (bit_not mask 64 j hm l))
    (bit-and x mask j)
    ∙ pick (bit mask j) (bit x j) (bit old j))
  where
    pick : (m x old : Bool) → (old && not m) || (x && m) ≡ choose m x old
    pick true true true = refl
    pick true true false = refl
    pick true false true = refl
    pick true false false = refl
    pick false true true = refl
    pick false true false = refl
    pick false false true = refl
    pick false false false = refl

bit-overlaid : (old x mask j : ℕ) → j < 64 → bit (overlaid old x mask) j ≡ choose (bit mask j) (bit x j) (bit old j)
unfolding overlaid
bit-overlaid old x mask j l = bit-pack 64 (λ j. choose (bit mask j) (bit x j) (bit old j)) j l

overlaid-lt : (old x mask : ℕ) → overlaid old x mask < 2 ^ 64
unfolding overlaid
overlaid-lt old x mask = pack-lt 64 (λ j. choose (bit mask j) (bit x j) (bit old j))

-- ---- a strict field

module _ (ws : List ℕ) (n i value width : ℕ) where
  -- afterwards p is a member
  abbrev after : ℕ → Bool
  after p = choose (leb i p && ltb p (i + width)) (bit value (p - i)) ((view ws n).members p)

  after_in : (p : ℕ) → i ≤ p → p < i + width → after p ≡ bit value (p - i)
  after_in p h l = ap₂ (λ (s t : Bool). choose (s && t) (bit value (p - i)) ((view ws n).members p)) (le-leb i p h) (lt-ltb p (i + width) l)

  after_below : (p : ℕ) → p < i → after p ≡ (view ws n).members p
  after_below p h = ap (λ (s : Bool). choose (s && ltb p (i + width)) (bit value (p - i)) ((view ws n).members p)) (lt-leb i p h)

  after_above : (p : ℕ) → i + width ≤ p → after p ≡ (view ws n).members p
  after_above p h =
      ap (λ (t : Bool). choose (leb i p && t) (bit value (p - i)) ((view ws n).members p)) (le-ltb p (i + width) h)
      ∙ ap (λ (t : Bool). choose t (bit value (p - i)) ((view ws n).members p)) (and-false (leb i p))

  -- the word of i, and the word after it where the field goes on there
  abbrev low_word : ℕ
  low_word = overlaid (get_or ws (i / 64) 0) (value * 2 ^ (i % 64) % 2 ^ 64) (low_mask 64 width * 2 ^ (i % 64) % 2 ^ 64)

  abbrev high_word : ℕ
  high_word = overlaid (get_or ws (i / 64 + 1) 0) (value / 2 ^ (64 - i % 64)) (low_mask 64 (width - (64 - i % 64)))

  low_bit : (j : ℕ) → i / 64 < n → j < 64 → bit low_word j ≡ after (64 * (i / 64) + j)
  low_bit j h l =
      bit-overlaid (get_or ws (i / 64) 0) x mask j l
      ∙ by_lt j r
      (λ p. out (mask_bit ∙ ap (λ (t : Bool). t && bit (low_mask 64 width) (j - r)) (lt-leb r j p)) ∙ sym (after_below (64 * a + j) (omega arith)))
      (λ p. by_lt (j - r) width
      (λ q.
      ap₂ (λ (m v : Bool). choose m v (bit (get_or ws a 0) j))
      (mask_bit ∙ ap₂ (λ (s t : Bool). s && t) (le-leb r j p) (bit-low_mask 64 width (j - r) (omega arith) ∙ lt-ltb (j - r) width q))
      (bit-shl-mod value r 64 j l ∙ ap (λ (t : Bool). t && bit value (j - r)) (le-leb r j p))
      ∙ ap (bit value) (omega arith) ∙ sym (after_in (64 * a + j) (omega arith) (omega arith)))
      (λ q.
      out
      (mask_bit ∙ ap (λ (t : Bool). leb r j && t) (bit-low_mask 64 width (j - r) (omega arith) ∙ le-ltb (j - r) width q) ∙ and-false (leb r j))
      ∙ sym (after_above (64 * a + j) (omega arith))))
    where
      a : ℕ
      a = i / 64

      r : ℕ
      r = i % 64

      x : ℕ
      x = value * 2 ^ r % 2 ^ 64

      mask : ℕ
      mask = low_mask 64 width * 2 ^ r % 2 ^ 64

      mask_bit : bit mask j ≡ leb r j && bit (low_mask 64 width) (j - r)
      mask_bit = bit-shl-mod (low_mask 64 width) r 64 j l

      out : bit mask j ≡ false → choose (bit mask j) (bit x j) (bit (get_or ws a 0) j) ≡ (view ws n).members (64 * a + j)
      out e = ap (λ (m : Bool). choose m (bit x j) (bit (get_or ws a 0) j)) e ∙ sym (view_in ws n a j h l)

  high_bit : (j : ℕ) → i / 64 + 1 < n → 64 < i % 64 + width → j < 64 → bit high_word j ≡ after (64 * (i / 64 + 1) + j)
  high_bit j h over l =
      bit-overlaid (get_or ws a 0) x mask j l
      ∙ by_lt j (width - d)
      (λ q.
      ap₂ (λ (m v : Bool). choose m v (bit (get_or ws a 0) j)) (bit-low_mask 64 (width - d) j l ∙ lt-ltb j (width - d) q) (bit-shr value d j)
      ∙ ap (bit value) (omega arith) ∙ sym (after_in (64 * a + j) (omega arith) (omega arith)))
      (λ q.
      ap (λ (m : Bool). choose m (bit x j) (bit (get_or ws a 0) j)) (bit-low_mask 64 (width - d) j l ∙ le-ltb j (width - d) q)
      ∙ sym (view_in ws n a j h l) ∙ sym (after_above (64 * a + j) (omega arith)))
    where
      a : ℕ
      a = i / 64 + 1

      d : ℕ
      d = 64 - i % 64

      x : ℕ
      x = value / 2 ^ d

      mask : ℕ
      mask = low_mask 64 (width - d)

  -- the words of the field, up to word e, are right, and the others are as they were
  field_stored : (ws' : List ℕ) (e : ℕ) → Fit ws → length ws' ≡ length ws → e ≤ n → i + width ≤ 64 * e
      → ((k : ℕ) → i / 64 ≤ k → k < e → (get_or ws' k 0 < 2 ^ 64) × ((j : ℕ) → j < 64 → bit (get_or ws' k 0) j ≡ after (64 * k + j)))
      → ((k : ℕ) → (k < i / 64) ⊎ (e ≤ k) → get_or ws' k 0 ≡ get_or ws k 0) → Stored ws n (with_field i value width (view ws n)) ws'
  unfolding with_field view
  field_stored ws' e f long inside end right same = record {
    long = long;
    fits = λ k p.
        by_lt k (i / 64)
        (λ q. subst (λ (x : ℕ). x < 2 ^ 64) (sym (same k (inl q))) (f k))
        (λ q. by_lt k e
        (λ s. (right k q s).0)
        (λ s. subst (λ (x : ℕ). x < 2 ^ 64) (sym (same k (inr s))) (f k)));
    used = λ k j p l.
        by_lt k (i / 64)
        (λ q. ap (λ (x : ℕ). bit x j) (same k (inl q)) ∙ sym (view_in ws n k j p l) ∙ sym (after_below (64 * k + j) (omega arith)))
        (λ q. by_lt k e
        (λ s. (right k q s).1 j l)
        (λ s. ap (λ (x : ℕ). bit x j) (same k (inr s)) ∙ sym (view_in ws n k j p l) ∙ sym (after_above (64 * k + j) (omega arith))));
    dropped = λ k p q. absurd (omega arith);
    kept = λ k p q. same k (inr (omega arith));
  }

  field-one : (ws' : List ℕ) → Fit ws → i / 64 < n → n ≤ length ws → i % 64 + width ≤ 64 → ws' ≡ set ws (i / 64) low_word
      → Stored ws n (with_field i value width (view ws n)) ws'
  field-one ws' f h long end e =
      field_stored ws' (i / 64 + 1) f (ap length e ∙ length-set ws (i / 64) low_word) (omega arith) (omega arith)
      (λ k p q.
      let at : get_or ws' k 0 ≡ low_word = ap (λ (y : List ℕ). get_or y k 0) e ∙ get_d_set ws (i / 64) k low_word (omega arith) (omega arith) in
      let kk : k ≡ i / 64 = omega arith in (
        subst (λ (x : ℕ). x < 2 ^ 64) (sym at) (overlaid-lt _ _ _),
        λ j l. ap (λ (x : ℕ). bit x j) at ∙ low_bit j h l ∙ ap (λ (m : ℕ). after (64 * m + j)) (sym kk),
      ))
      (λ k o. ap (λ (y : List ℕ). get_or y k 0) e ∙ get_or-set_other ws (i / 64) k low_word 0 (apart k o))
    where
      apart : (k : ℕ) → (k < i / 64) ⊎ (i / 64 + 1 ≤ k) → k ≡ i / 64 → ⊥
      apart k (inl p) q = omega arith
      apart k (inr p) q = omega arith

  field_two : (ws1 ws' : List ℕ) → Fit ws → i / 64 + 1 < n → n ≤ length ws → 64 < i % 64 + width → width ≤ 64 → ws1 ≡ set ws (i / 64) low_word
      → ws' ≡ set ws1 (i / 64 + 1) (overlaid (get_or ws1 (i / 64 + 1) 0) (value / 2 ^ (64 - i % 64)) (low_mask 64 (width - (64 - i % 64))))
      → Stored ws n (with_field i value width (view ws n)) ws'
  field_two ws1 ws' f h long over wide e1 e2 =
      field_stored ws' (a + 1) f (ap length e ∙ length-set (set ws (i / 64) low_word) a high_word ∙ length-set ws (i / 64) low_word)
      (omega arith) (omega arith)
      (λ k p q. by_eq k a (λ x. second k x) (λ x. first k (omega arith)))
      (λ k o. at k ∙ get_or-set_other (set ws (i / 64) low_word) a k high_word 0 (apart k o).1 ∙ get_or-set_other ws (i / 64) k low_word 0 (apart k o).0)
    where
      a : ℕ
      a = i / 64 + 1

      e : ws' ≡ set (set ws (i / 64) low_word) a high_word
      e =
          e2
          ∙ ap (λ (y : List ℕ). set y a (overlaid (get_or y a 0) (value / 2 ^ (64 - i % 64)) (low_mask 64 (width - (64 - i % 64))))) e1
          ∙ ap (λ (x : ℕ). set (set ws (i / 64) low_word) a (overlaid x (value / 2 ^ (64 - i % 64)) (low_mask 64 (width - (64 - i % 64)))))
          (get_or-set_other ws (i / 64) a low_word 0 (omega arith))

      at : (k : ℕ) → get_or ws' k 0 ≡ get_or (set (set ws (i / 64) low_word) a high_word) k 0
      at k = ap (λ (y : List ℕ). get_or y k 0) e

      Right : ℕ → Type 0
      Right k = (get_or ws' k 0 < 2 ^ 64) × ((j : ℕ) → j < 64 → bit (get_or ws' k 0) j ≡ after (64 * k + j))

      first : (k : ℕ) → k ≡ i / 64 → Right k
      first k x =
          let y : get_or ws' k 0 ≡ low_word =
          at k ∙ get_or-set_other (set ws (i / 64) low_word) a k high_word 0 (omega arith) ∙ get_d_set ws (i / 64) k low_word (omega arith) x in (
            subst (λ (x : ℕ). x < 2 ^ 64) (sym y) (overlaid-lt _ _ _),
            λ j l. ap (λ (x : ℕ). bit x j) y ∙ low_bit j (omega arith) l ∙ ap (λ (m : ℕ). after (64 * m + j)) (sym x),
          )

      second : (k : ℕ) → k ≡ a → Right k
      second k x =
          let y : get_or ws' k 0 ≡ high_word = at k ∙ get_d_set (set ws (i / 64) low_word) a k high_word (omega (arith, length-set ws (i / 64) low_word)) x in (
            subst (λ (x : ℕ). x < 2 ^ 64) (sym y) (overlaid-lt _ _ _),
            λ j l. ap (λ (x : ℕ). bit x j) y ∙ high_bit j h over l ∙ ap (λ (m : ℕ). after (64 * m + j)) (sym x),
          )

      apart : (k : ℕ) → (k < i / 64) ⊎ (a + 1 ≤ k) → (k ≡ i / 64 → ⊥) × (k ≡ a → ⊥)
      apart k (inl p) = (λ q. omega arith, λ q. omega arith)
      apart k (inr p) = (λ q. omega arith, λ q. omega arith)

module _ (ws : List ℕ) (b : Bitmap) (i value width : ℕ) (p : Passed ws b) where
  setting-wide : 64 < width → setting_field_inside i value width (length ws) (view ws b.count) ≡ refused WidthOver
  unfolding setting_field_inside
  setting-wide h = rw (lt-ltb 64 width h)

  setting_none : width ≡ 0 → setting_field_inside i value width (length ws) (view ws b.count) ≡ done (view ws b.count)
  unfolding setting_field_inside
  setting_none h = rw (le-ltb 64 width (omega arith), eq-eqb width 0 h)

  setting-past : 0 < width → width ≤ 64 → 64 * b.count < i + width → setting_field_inside i value width (length ws) (view ws b.count) ≡ refused PastLength
  unfolding setting_field_inside view
  setting-past pos wide h = rw (le-ltb 64 width wide, ne_eqb width 0 (omega arith), lt-ltb (64 * b.count) (i + width) h)

  pub setting_in : 0 < width → width ≤ 64 → i + width ≤ 64 * b.count
      → setting_field_inside i value width (length ws) (view ws b.count) ≡ done (with_field i value width (view ws b.count))
  unfolding setting_field_inside view
  setting_in pos wide h = rw (le-ltb 64 width wide, ne_eqb width 0 (omega arith), le-ltb (64 * b.count) (i + width) h)

  pub refused-wide : 64 < width → Changes (setting_field_inside i value width) ws b (refusing b WidthOver) ws
  refused-wide h = changes-refused (setting_field_inside i value width) ws b WidthOver p (setting-wide h)

  pub refused-past : 0 < width → width ≤ 64 → 64 * b.count < i + width → Changes (setting_field_inside i value width) ws b (refusing b PastLength) ws
  refused-past pos wide h = changes-refused (setting_field_inside i value width) ws b PastLength p (setting-past pos wide h)

  pub done_none : Fit ws → width ≡ 0 → Changes (setting_field_inside i value width) ws b (Ok b) ws
  unfolding view
  done_none f h =
      changes_done (setting_field_inside i value width) ws b ws (view ws b.count) b.count p (setting_none h)
      (record {
        long = refl;
        fits = λ k l. f k;
        used = λ k j l m. sym (view_in ws b.count k j l m);
        dropped = λ k l m. absurd (omega arith);
        kept = λ k l m. refl;
      })
      refl

  -- the whole field is there
  module _ (f : Fit ws) (pos : 0 < width) (wide : width ≤ 64) (inside : i + width ≤ 64 * b.count) where
    done_with : (ws' : List ℕ) → Stored ws b.count (with_field i value width (view ws b.count)) ws' → Changes (setting_field_inside i value width) ws b (Ok b) ws'
    unfolding with_field view
    done_with ws' s =
        changes_done (setting_field_inside i value width) ws b ws' (with_field i value width (view ws b.count)) b.count p (setting_in pos wide inside) s refl

    pub done_one : (ws' : List ℕ) (mask : ℕ) → i % 64 + width ≤ 64 → mask ≡ low_mask 64 width
        → ws' ≡ set ws (i / 64) (overlaid (get_or ws (i / 64) 0) (value * 2 ^ (i % 64) % 2 ^ 64) (mask * 2 ^ (i % 64) % 2 ^ 64))
        → Changes (setting_field_inside i value width) ws b (Ok b) ws'
    done_one ws' mask end em e =
        done_with ws'
        (field-one ws b.count i value width ws' f (omega arith) p.inside end
        (e ∙ ap (λ (m : ℕ). set ws (i / 64) (overlaid (get_or ws (i / 64) 0) (value * 2 ^ (i % 64) % 2 ^ 64) (m * 2 ^ (i % 64) % 2 ^ 64))) em))

    pub done_two : (ws1 ws' : List ℕ) (mask high : ℕ) → 64 < i % 64 + width → mask ≡ low_mask 64 width → high ≡ low_mask 64 (width - (64 - i % 64))
        → ws1 ≡ set ws (i / 64) (overlaid (get_or ws (i / 64) 0) (value * 2 ^ (i % 64) % 2 ^ 64) (mask * 2 ^ (i % 64) % 2 ^ 64))
        → ws' ≡ set ws1 (i / 64 + 1) (overlaid (get_or ws1 (i / 64 + 1) 0) (value / 2 ^ (64 - i % 64)) high)
        → Changes (setting_field_inside i value width) ws b (Ok b) ws'
    done_two ws1 ws' mask high over em eh e1 e2 =
        done_with ws'
        (field_two ws b.count i value width ws1 ws' f (omega arith) p.inside over wide
        (e1 ∙ ap (λ (m : ℕ). set ws (i / 64) (overlaid (get_or ws (i / 64) 0) (value * 2 ^ (i % 64) % 2 ^ 64) (m * 2 ^ (i % 64) % 2 ^ 64))) em)
        (e2 ∙ ap (λ (m : ℕ). set ws1 (i / 64 + 1) (overlaid (get_or ws1 (i / 64 + 1) 0) (value / 2 ^ (64 - i % 64)) m)) eh))
