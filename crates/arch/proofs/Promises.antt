-- The promises of specs/Promises.
use Rattle.std.proofs.Common.{◌≡◌, ℕ, ◌+◌, ◌*◌, ◌/◌, ◌%◌, ◌^◌, ◌<◌, Bool, true, false, not, ◌&&◌, eqb, ltb, leb, List, length, get_or, sym, refl, ap, ◌∙◌, subst, ap₂, inl, inr, mod-eq_of_lt, arith, le-ltb, lt-ltb, eq-eqb, eqb-true, le-leb}
use borrow.Author.Tests.{lt-leb, eqb-false, not-true, not-false}
use Rattle.word.specs.Sets.{choose, least_from, top_below, Least}
use Rattle.word.specs.Places.{bit, member, words_of}
use Rattle.word.specs.Words.{all_ones}
use Rattle.word.proofs.Cases.{by_lt, and-false}
use Rattle.word.proofs.Places.{bit-zero, no_bits}
use Rattle.word.proofs.Sets.{count-le, counts_is, least, top}
use Rattle.word.proofs.Lists.{at_place, member-at, member-past, member_words, length_words}
use Rattle.arch.specs.Scans.{Alike, first_other, word_found, word_flag, word_index, word_there, nonzero_len, is_zero, count_set, filled}
use Rattle.arch.specs.Promises.{FirstOther, FirstNonzeroMeans, FirstNotOnesMeans, NonzeroLenMeans, IsZeroMeans, CountSetMeans}
use Rattle.arch.specs.Promises.{CountIsWhole, FillWordsMeans, FillRegionMeans}
use Rattle.std.specs.Prelude.{Option, Some, None}
use Rattle.arch.proofs.Scans.{nonzero_none, nonzero_le, nonzero_past, nonzero_last}
use Rattle.arch.proofs.Regions.{length-filled_words, filled_in, filled_below, filled_above}

-- ---- scans

pub first_other_lem : (x : ℕ) (ws : List ℕ) (a : Option (ℕ × ℕ)) → a ≡ word_found ws (first_other x ws) → FirstOther x ws (word_flag a) (word_index a) (word_there a)
unfolding first_other word_found
first_other_lem x ws a e =
    by_lt k (length ws)
    (λ h.
    subst is (sym (e ∙ ap (λ (t : Bool). choose t (Some (k, get_or ws k 0)) None) (lt-ltb k (length ws) h)))
    (inl (refl, h, refl, eqb-false (get_or ws k 0) x (not-true (eqb (get_or ws k 0) x) (r.here (omega arith))), alike)))
    (λ h.
    subst is (sym (e ∙ ap (λ (t : Bool). choose t (Some (k, get_or ws k 0)) None) (le-ltb k (length ws) h)))
    (inr (refl, refl, refl, record { at = λ j a b. alike.at j a (omega arith) })))
  where
    is : Option (ℕ × ℕ) → Type 0
    is a = FirstOther x ws (word_flag a) (word_index a) (word_there a)

    s : ℕ → Bool
    s j = not (eqb (get_or ws j 0) x)

    k : ℕ
    k = least_from s 0 (length ws)

    r : Least s 0 (0 + length ws) k
    r = least s 0 (length ws)

    alike : Alike ws x 0 k
    alike = record { at = λ j a b. eqb-true (get_or ws j 0) x (not-false (eqb (get_or ws j 0) x) (r.under j a b)) }

pub first_nonzero_means : FirstNonzeroMeans
first_nonzero_means = first_other_lem 0

pub first_not_ones_means : FirstNotOnesMeans
first_not_ones_means = first_other_lem all_ones

pub nonzero_len_means : NonzeroLenMeans
nonzero_len_means ws = record { within = nonzero_le ws; last = nonzero_last ws; after = nonzero_past ws }

pub zero_is_empty : IsZeroMeans
unfolding is_zero nonzero_len
zero_is_empty ws f = record {
  empty = λ e i.
      by_lt i (64 * length ws)
      (λ l.
      ap (member ws) (sym (at_place i)) ∙ member-at ws (i / 64) (i % 64) (omega arith)
      ∙ ap (λ (x : ℕ). bit x (i % 64)) (zero_word e (i / 64) (omega arith)) ∙ bit-zero (i % 64))
      (λ l. member-past ws i l);
  zero = λ h.
      eq-eqb (nonzero_len ws) 0
      (sym (nonzero_none ws (record { at = λ k a b. no_bits 64 (get_or ws k 0) (f k) (λ j l. sym (member-at ws k j l) ∙ h (64 * k + j)) })));
}
  where
    s : ℕ → Bool
    s k = not (eqb (get_or ws k 0) 0)

    zero_word : eqb (top_below s (length ws)) 0 ≡ true → (k : ℕ) → k < length ws → get_or ws k 0 ≡ 0
    zero_word e k l =
        eqb-true (get_or ws k 0) 0
        (not-false (eqb (get_or ws k 0) 0) ((top s (length ws)).over k (omega (arith, eqb-true (top_below s (length ws)) 0 e)) l))

pub count_set_means : CountSetMeans
unfolding count_set
count_set_means ws count c = ap (λ (n : ℕ). n % 2 ^ 64) (sym (counts_is (member ws) count c (64 * length ws)))

pub count_is_whole : CountIsWhole
unfolding count_set
count_is_whole ws h = mod-eq_of_lt (omega (arith, count-le (member ws) (64 * length ws)))

-- ---- regions

pub fills_words : FillWordsMeans
fills_words a e x ws = record { long = length-filled_words a e x ws; inside = filled_in a e x ws; below = filled_below a e x ws; above = filled_above a e x ws }

pub fills : FillRegionMeans
unfolding filled
fills from end v ws = record {
  long = length_words s (length ws);
  in_region = λ i l a b.
      member_words s (length ws) i l
      ∙ ap₂ (λ (p q : Bool). choose (p && q) v (member ws i)) (le-leb from i a) (lt-ltb i end b);
  before = λ i h. outside i (ap (λ (p : Bool). p && ltb i end) (lt-leb from i h));
  after = λ i h. outside i (ap (λ (p : Bool). leb from i && p) (le-ltb i end h) ∙ and-false (leb from i));
}
  where
    s : ℕ → Bool
    s i = choose (leb from i && ltb i end) v (member ws i)

    outside : (i : ℕ) → leb from i && ltb i end ≡ false → member (words_of s (length ws)) i ≡ member ws i
    outside i e =
        by_lt i (64 * length ws)
        (λ l. member_words s (length ws) i l ∙ ap (λ (p : Bool). choose p v (member ws i)) e)
        (λ l. member-past (words_of s (length ws)) i (omega (arith, length_words s (length ws))) ∙ sym (member-past ws i l))
