-- The least member from a place on, of a set given by its words: it is in the word of the place, or in the first word after it that is not 0.
-- A set of clear places is given by the complements of the words.
use mathlib.Core.Path.{◌≡◌, sym, ap, ◌∙◌}
use mathlib.Core.Bool.{Bool, true, false, ◌&&◌}
use Prim.Native.Nat.{ℕ, ◌+◌, ◌-◌, ◌*◌, ◌/◌, ◌%◌, ◌^◌, ◌≤◌, ◌<◌}
use native.Mathlib.Nat.{mod-lt}
use native.Mathlib.Omega.{arith}
use lib.Pow.{pow_pos}
use lib.Dec.{leb}
use borrow.Author.Tests.{le-leb, lt-leb, leb-true}
use Rattle.word.specs.Sets.{least_from, Least}
use Rattle.word.specs.Places.{bit}
use Rattle.word.proofs.Cases.{by_lt, by_eq, and-true}
use Rattle.word.proofs.Places.{bit-zero, bit_from}
use Rattle.word.proofs.Sets.{least, least_is}
use Rattle.word.proofs.Words.{least_bit}

-- the words of s below n are w's
pub record Words (s : ℕ → Bool) (w : ℕ → ℕ) (n : ℕ) : Type 0 where
  pub fits : (k : ℕ) → w k < 2 ^ 64
  pub at : (k j : ℕ) → k < n → j < 64 → bit (w k) j ≡ s (64 * k + j)

-- no number from i on, below e, is a member
pub record Bare (s : ℕ → Bool) (i e : ℕ) : Type 0 where
  pub at : (q : ℕ) → i ≤ q → q < e → s q ≡ false

-- p is the least member from i on, below the end of word n
pub record First (s : ℕ → Bool) (n i p : ℕ) : Type 0 where
  pub is : least_from s i (64 * n - i) ≡ p
  pub inside : p < 64 * n

-- the places of x from place i mod 64 on: `(x >> r) << r`
abbrev pub kept_first : ℕ → ℕ → ℕ
kept_first x i = x / 2 ^ (i % 64) * 2 ^ (i % 64) % 2 ^ 64

module _ (s : ℕ → Bool) (n i : ℕ) where
  least_none : i ≤ 64 * n → Bare s i (64 * n) → least_from s i (64 * n - i) ≡ 64 * n
  least_none h b =
      least_is s i (64 * n - i) (64 * n)
      (record { from = h; within = omega arith; here = λ l. absurd (omega arith); under = b.at })

  -- x has the members of word m from i on
  module _ (m x : ℕ) (h : m < n) (pos : 0 < x) (lt : x < 2 ^ 64) (f : (j : ℕ) → j < 64 → bit x j ≡ leb i (64 * m + j) && s (64 * m + j)) where
    abbrev t : ℕ
    t = least_from (bit x) 0 64

    r : Least (bit x) 0 (0 + 64) t
    r = least (bit x) 0 64

    in_word : t < 64
    in_word = least_bit 64 x pos lt

    here : (leb i (64 * m + t) ≡ true) × (s (64 * m + t) ≡ true)
    here = and-true (leb i (64 * m + t)) (s (64 * m + t)) (sym (f t in_word) ∙ r.here (omega (arith, in_word)))

    before : (j : ℕ) → i ≤ 64 * m + j → j < t → s (64 * m + j) ≡ false
    before j p l =
        ap (λ (a : Bool). a && s (64 * m + j)) (sym (le-leb i (64 * m + j) p)) ∙ sym (f j (omega (arith, in_word))) ∙ r.under j (omega arith) l

    least_in : Bare s i (64 * m) → least_from s i (64 * n - i) ≡ 64 * m + t
    least_in b =
        let up : i ≤ 64 * m + t = leb-true i (64 * m + t) here.0 in
        least_is s i (64 * n - i) (64 * m + t)
        (record {
          from = up;
          within = omega (arith, in_word);
          here = λ l. here.1;
          under = λ q p l.
              by_lt q (64 * m)
              (λ a. b.at q p a)
              (λ a. let e : 64 * m + (q - 64 * m) ≡ q = omega arith in ap s (sym e) ∙ before (q - 64 * m) (omega arith) (omega arith));
        })

    least_word : (z : ℕ) → z ≡ least_from (bit x) 0 64 → Bare s i (64 * m) → First s n i (64 * m + z)
    least_word z e b = record { is = least_in b ∙ ap (λ (y : ℕ). 64 * m + y) (sym e); inside = omega (arith, in_word) }

module _ (s : ℕ → Bool) (w : ℕ → ℕ) (n : ℕ) (words : Words s w n) (i : ℕ) (inside : i / 64 < n) where
  -- the word of i without the places below i
  abbrev rest : ℕ
  rest = kept_first (w (i / 64)) i

  rest_bit : (j : ℕ) → j < 64 → bit rest j ≡ leb i (64 * (i / 64) + j) && s (64 * (i / 64) + j)
  rest_bit j l =
      bit_from (w (i / 64)) (i % 64) 64 j l ∙ ap (λ (a : Bool). leb (i % 64) j && a) (words.at (i / 64) j inside l)
      ∙ ap (λ (a : Bool). a && s (64 * (i / 64) + j)) same
    where
      same : leb (i % 64) j ≡ leb i (64 * (i / 64) + j)
      same =
          by_lt j (i % 64)
          (λ p. lt-leb (i % 64) j p ∙ sym (lt-leb i (64 * (i / 64) + j) (omega arith)))
          (λ p. le-leb (i % 64) j p ∙ sym (le-leb i (64 * (i / 64) + j) (omega arith)))

  pub first_here : (z : ℕ) → (rest ≡ 0 → ⊥) → z ≡ least_from (bit rest) 0 64 → First s n i (64 * (i / 64) + z)
  first_here z nz e =
      least_word s n i (i / 64) rest inside (omega arith) (mod-lt (w (i / 64) / 2 ^ (i % 64) * 2 ^ (i % 64)) (pow_pos 64)) rest_bit z e
      (record { at = λ q p l. absurd (omega arith) })

  -- the word of i has nothing from i on, and the words after it, up to word e, are 0
  module _ (none : rest ≡ 0) (e : ℕ) (inside-e : e ≤ n) (zeros : (m : ℕ) → i / 64 + 1 ≤ m → m < e → w m ≡ 0) where
    bare : Bare s i (64 * e)
    bare = record {
      at = λ q p l.
          let place : 64 * (q / 64) + q % 64 ≡ q = omega arith in
          by_eq (q / 64) (i / 64)
          (λ x.
          let at_i : 64 * (i / 64) + q % 64 ≡ q = omega arith in
          ap s (sym at_i)
          ∙ ap (λ (a : Bool). a && s (64 * (i / 64) + q % 64)) (sym (le-leb i (64 * (i / 64) + q % 64) (omega arith)))
          ∙ sym (rest_bit (q % 64) (omega arith)) ∙ ap (λ (y : ℕ). bit y (q % 64)) none ∙ bit-zero (q % 64))
          (λ x.
          ap s (sym place) ∙ sym (words.at (q / 64) (q % 64) (omega arith) (omega arith))
          ∙ ap (λ (y : ℕ). bit y (q % 64)) (zeros (q / 64) (omega arith) (omega arith)) ∙ bit-zero (q % 64));
    }

    pub first_after : (z : ℕ) → e < n → i / 64 < e → (w e ≡ 0 → ⊥) → z ≡ least_from (bit (w e)) 0 64 → First s n i (64 * e + z)
    first_after z l after nz q =
        least_word s n i e (w e) l (omega arith) (words.fits e)
        (λ j m. words.at e j l m ∙ ap (λ (a : Bool). a && s (64 * e + j)) (sym (le-leb i (64 * e + j) (omega arith))))
        z q bare

    pub first_none : n ≤ e → least_from s i (64 * n - i) ≡ 64 * n
    first_none l = least_none s n i (omega arith) (record { at = λ q p m. bare.at q p (omega arith) })
