-- Two bitmaps have the same members exactly where their words agree after trailing zero words are dropped.
use mathlib.Core.Path.{◌≡◌, refl, sym, ap, ap₂, ◌∙◌}
use mathlib.Core.Bool.{Bool, true, false, not, false≢true, true≢false}
use mathlib.Core.List.{List}
use Prim.Native.Nat.{ℕ, ◌*◌, ◌/◌, ◌%◌, ◌≤◌}
use native.Mathlib.Nat.{le_antisymm}
use native.Mathlib.Omega.{arith}
use lib.ListN.{length, get_or, take}
use lib.Seq.{get_or-take, length-take-le}
use lib.Dec.{eqb}
use borrow.Author.Tests.{eq-eqb, eqb-true, not-false}
use Rattle.word.specs.Sets.{xorb}
use Rattle.word.specs.Places.{bit, member}
use Rattle.word.proofs.Cases.{by_lt, by_test, eqb_same}
use Rattle.word.proofs.Sets.{top}
use Rattle.word.proofs.Lists.{Fit, past, fit_part, determined}
use Rattle.arch.specs.Scans.{nonzero_len, is_zero}
use Rattle.arch.proofs.Scans.{nonzero_le}
use Rattle.pairs.specs.Pairs.{words_by}
use Rattle.pairs.specs.declared.SetOp.TheVariants.{Xor}
use Rattle.pairs.proofs.Tables.{by_fit, by_member}
use Rattle.storage.specs.Stores.{Bits, Bounded, view, size, combined, trimmed_count}
use Rattle.storage.specs.Kernels.{all_words}
use Rattle.storage.proofs.Combined.{all-member, all_bounded, size_none, none_of_size, zero_words}
use Rattle.storage.proofs.Outcomes.{bounded_combined}
use Rattle.storage.proofs.Views.{view-part, bounded_view}
use Rattle.storage.proofs.Trims.{trimmed_holds, trimmed_least, trimmed-view}
use Rattle.slice.specs.Slices.{front_part, equal}

-- ---- the same members

xor_same : (p q : Bool) → p ≡ q → xorb p q ≡ false
xor_same true true e = refl
xor_same true false e = absurd (true≢false e)
xor_same false true e = absurd (false≢true e)
xor_same false false e = refl

same-xor : (p q : Bool) → xorb p q ≡ false → p ≡ q
same-xor true true e = refl
same-xor true false e = absurd (true≢false e)
same-xor false true e = absurd (true≢false e)
same-xor false false e = refl

module _ (b o : Bits) where
  pub equal_of_same : ((i : ℕ) → b.members i ≡ o.members i) → equal b o ≡ true
  unfolding equal combined
  equal_of_same h = eq-eqb (size (combined Xor b o)) 0 (size_none (combined Xor b o) (λ i. xor_same (b.members i) (o.members i) (h i)))

  pub same_of_equal : Bounded b → Bounded o → equal b o ≡ true → (i : ℕ) → b.members i ≡ o.members i
  unfolding equal combined
  same_of_equal bb bo e i =
      same-xor (b.members i) (o.members i) (none_of_size (combined Xor b o) (bounded_combined Xor b o bb bo) (eqb-true (size (combined Xor b o)) 0 e) i)

-- ---- the front part of the words

pub front_is : (ws : List ℕ) (n : ℕ) → n ≡ nonzero_len ws → take n ws ≡ front_part ws
unfolding front_part
front_is ws n e = ap (λ (m : ℕ). take m ws) e

pub length_front : (ws : List ℕ) → length (front_part ws) ≡ nonzero_len ws
unfolding front_part
length_front ws = length-take-le (nonzero_len ws) ws (nonzero_le ws)

front_fit : (ws : List ℕ) → Fit ws → Fit (front_part ws)
unfolding front_part
front_fit ws f = fit_part ws (nonzero_len ws) f (nonzero_le ws)

pub zero-past : (ws : List ℕ) (k : ℕ) → nonzero_len ws ≤ k → get_or ws k 0 ≡ 0
unfolding nonzero_len
zero-past ws k h =
    by_lt k (length ws)
    (λ l. eqb-true (get_or ws k 0) 0 (not-false (eqb (get_or ws k 0) 0) ((top (λ k. not (eqb (get_or ws k 0) 0)) (length ws)).over k h l)))
    (λ l. past ws k l)

-- it has every member
front-member : (ws : List ℕ) (i : ℕ) → member (front_part ws) i ≡ member ws i
unfolding front_part member
front-member ws i =
    by_lt (i / 64) (nonzero_len ws)
    (λ l. ap (λ (x : ℕ). bit x (i % 64)) (get_or-take (nonzero_len ws) ws (i / 64) 0 l))
    (λ l.
    ap (λ (x : ℕ). bit x (i % 64)) (past (front_part ws) (i / 64) (omega (arith, length_front ws)) ∙ sym (zero-past ws (i / 64) l)))

-- ---- two bitmaps

trimmed-at_most : (b o : Bits) → Bounded o → ((i : ℕ) → b.members i ≡ o.members i) → trimmed_count b.members b.count ≤ trimmed_count o.members o.count
trimmed-at_most b o bo h =
    trimmed_least b.members b.count (trimmed_count o.members o.count)
    (λ i l e.
    trimmed_holds o.members o.count i
    (by_lt i (64 * o.count) (λ p. p) (λ p. absurd (false≢true (sym (bo.past i p) ∙ sym (h i) ∙ e))))
    (sym (h i) ∙ e))

module _ (ws os : List ℕ) (n m : ℕ) (hn : n ≤ length ws) (hm : m ≤ length os) where
  pub same_of_front : front_part (take n ws) ≡ front_part (take m os) → (i : ℕ) → (view ws n).members i ≡ (view os m).members i
  same_of_front e i =
      view-part ws n i hn ∙ sym (front-member (take n ws) i) ∙ ap (λ (l : List ℕ). member l i) e ∙ front-member (take m os) i
      ∙ sym (view-part os m i hm)

  pub front_of_same : Fit ws → Fit os → ((i : ℕ) → (view ws n).members i ≡ (view os m).members i) → front_part (take n ws) ≡ front_part (take m os)
  unfolding view
  front_of_same f g h =
      determined (front_part (take n ws)) (front_part (take m os)) (front_fit (take n ws) (fit_part ws n f hn)) (front_fit (take m os) (fit_part os m g hm))
      (length_front (take n ws) ∙ sym (trimmed-view ws n hn (fit_part ws n f hn))
      ∙ le_antisymm
      (trimmed-at_most (view ws n) (view os m) (bounded_view os m) h)
      (trimmed-at_most (view os m) (view ws n) (bounded_view ws n) (λ i. sym (h i)))
      ∙ trimmed-view os m hm (fit_part os m g hm) ∙ sym (length_front (take m os)))
      (λ i.
      front-member (take n ws) i ∙ sym (view-part ws n i hn) ∙ h i ∙ view-part os m i hm ∙ sym (front-member (take m os) i))

  module _ (xs ys : List ℕ) (ex : xs ≡ front_part (take n ws)) (ey : ys ≡ front_part (take m os)) where
    -- where the front parts have another length
    pub equal-not : Fit ws → Fit os → (length xs ≡ length ys → ⊥) → false ≡ equal (view ws n) (view os m)
    equal-not f g d =
        by_test (equal (view ws n) (view os m))
        (λ e. absurd (d (ap length (ex ∙ front_of_same f g (same_of_equal (view ws n) (view os m) (bounded_view ws n) (bounded_view os m) e) ∙ sym ey))))
        sym

    -- the words that differ are those of the numbers of one only
    differing : (i : ℕ) → (combined Xor (view ws n) (view os m)).members i ≡ (all_words (words_by Xor xs ys)).members i
    unfolding combined
    differing i =
        ap₂ xorb
        (view-part ws n i hn ∙ sym (front-member (take n ws) i) ∙ ap (λ (l : List ℕ). member l i) (sym ex))
        (view-part os m i hm ∙ sym (front-member (take m os) i) ∙ ap (λ (l : List ℕ). member l i) (sym ey))
        ∙ sym (all-member (words_by Xor xs ys) i ∙ by_member Xor xs ys i)

    pub equal_is : is_zero (words_by Xor xs ys) ≡ equal (view ws n) (view os m)
    unfolding equal
    equal_is =
        zero_words (words_by Xor xs ys) (by_fit Xor xs ys)
        ∙ eqb_same (size words) 0 (size set) 0
        (λ e. size_none set (λ i. differing i ∙ none_of_size words (all_bounded (words_by Xor xs ys)) e i))
        (λ e. size_none words (λ i. sym (differing i) ∙ none_of_size set (bounded_combined Xor (view ws n) (view os m) (bounded_view ws n) (bounded_view os m)) e i))
      where
        words : Bits
        words = all_words (words_by Xor xs ys)

        set : Bits
        set = combined Xor (view ws n) (view os m)
