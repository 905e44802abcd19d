-- The trimmed count: the fewest words that hold every member.
use mathlib.Core.Path.{◌≡◌, refl, sym, ap, ◌∙◌, subst}
use mathlib.Core.Bool.{Bool, true, false, not, false≢true}
use mathlib.Core.List.{List}
use Prim.Native.Nat.{ℕ, zero, suc, ◌+◌, ◌*◌, ◌/◌, ◌%◌, ◌^◌, ◌≤◌, ◌<◌}
use native.Mathlib.Nat.{le_antisymm}
use native.Mathlib.Omega.{arith}
use lib.ListN.{length, get_or, take}
use lib.Seq.{length-take-le, get_or-take}
use lib.Dec.{eqb}
use borrow.Author.Tests.{eqb-true, eqb-false, not-true, not-false}
use Rattle.word.specs.Sets.{least_from, top_below, Top}
use Rattle.word.specs.Places.{bit, word_of, member}
use Rattle.word.proofs.Cases.{by_lt, by_eq, by_test}
use Rattle.word.proofs.Places.{bit-zero, bit-pack, pack-lt, pack_is}
use Rattle.word.proofs.Sets.{least, top}
use Rattle.word.proofs.Words.{least_bit}
use Rattle.word.proofs.Lists.{Fit, member-at, at_place}
use Rattle.arch.specs.Scans.{nonzero_len}
use Rattle.storage.specs.Stores.{Bits, Bounded, view, words_for, trimmed_count, trimmed}
use Rattle.storage.proofs.Views.{view_in, view_out, view-whole}
use Rattle.storage.proofs.Stores.{Stored}

module _ (s : ℕ → Bool) (n : ℕ) where
  abbrev t : ℕ
  t = top_below s (64 * n)

  pub trimmed-le : trimmed_count s n ≤ n
  unfolding trimmed_count words_for
  trimmed-le = omega (arith, (top s (64 * n)).within)

  -- it holds every member
  pub trimmed_holds : (i : ℕ) → i < 64 * n → s i ≡ true → i < 64 * trimmed_count s n
  unfolding trimmed_count words_for
  trimmed_holds i l e =
      by_lt i t (λ h. omega arith) (λ h. absurd (false≢true (sym ((top s (64 * n)).over i h l) ∙ e)))

  -- and no smaller count does
  pub trimmed_least : (m : ℕ) → ((i : ℕ) → i < 64 * n → s i ≡ true → i < 64 * m) → trimmed_count s n ≤ m
  unfolding trimmed_count words_for
  trimmed_least m f = go t refl
    where
      go : (k : ℕ) → t ≡ k → (t + 63) / 64 ≤ m
      go zero e = omega arith
      go (suc k) e =
          let l : k < 64 * m = f k (omega (arith, (top s (64 * n)).within)) ((top s (64 * n)).last k (sym e)) in
          omega arith

  pub trimmed-past : (i : ℕ) → 64 * trimmed_count s n ≤ i → i < 64 * n → s i ≡ false
  trimmed-past i h l = by_test (s i) (λ e. absurd (omega (arith, trimmed_holds i l e))) (λ e. e)

  -- a word that is not 0 has a member
  some : (k : ℕ) → (word_of s k ≡ 0 → ⊥) → (j : ℕ) × (j < 64) × (s (64 * k + j) ≡ true)
  unfolding word_of
  some k nz =
      let w : ℕ = word_of s k in
      let h : w < 2 ^ 64 = pack-lt 64 (λ j. s (64 * k + j)) in
      let l : least_from (bit w) 0 64 < 64 = least_bit 64 w (by_eq w 0 (λ e. absurd (nz e)) (λ e. omega arith)) h in
      (least_from (bit w) 0 64, l, sym (bit-pack 64 (λ j. s (64 * k + j)) (least_from (bit w) 0 64) l) ∙ (least (bit w) 0 64).here (omega arith))

  -- where a scan from the end stops: nothing from m on, and the last word below m is not 0
  pub trimmed_is : (m : ℕ) → m ≤ n → ((i : ℕ) → 64 * m ≤ i → i < 64 * n → s i ≡ false) → ((k : ℕ) → suc k ≡ m → word_of s k ≡ 0 → ⊥)
      → trimmed_count s n ≡ m
  trimmed_is m h z nz = le_antisymm (trimmed_least m holds) (big m refl)
    where
      holds : (i : ℕ) → i < 64 * n → s i ≡ true → i < 64 * m
      holds i l e = by_lt i (64 * m) (λ p. p) (λ p. absurd (false≢true (sym (z i p l) ∙ e)))

      big : (k : ℕ) → k ≡ m → m ≤ trimmed_count s n
      big zero e = omega arith
      big (suc k) e =
          let p = some k (nz k e) in
          let l : 64 * k + p.0 < 64 * trimmed_count s n = trimmed_holds (64 * k + p.0) (omega (arith, p.1)) p.2 in
          omega (arith, p.1)

-- ---- by the words

pub trimmed_words : (ws : List ℕ) → Fit ws → trimmed_count (member ws) (length ws) ≡ nonzero_len ws
unfolding nonzero_len word_of
trimmed_words ws f = trimmed_is (member ws) (length ws) m r.within zero-past last
  where
    s : ℕ → Bool
    s k = not (eqb (get_or ws k 0) 0)

    m : ℕ
    m = top_below s (length ws)

    r : Top s (length ws) m
    r = top s (length ws)

    zero-past : (i : ℕ) → 64 * m ≤ i → i < 64 * length ws → member ws i ≡ false
    zero-past i a b =
        ap (member ws) (sym (at_place i)) ∙ member-at ws (i / 64) (i % 64) (omega arith)
        ∙ ap (λ (x : ℕ). bit x (i % 64)) (eqb-true (get_or ws (i / 64) 0) 0 (not-false (eqb (get_or ws (i / 64) 0) 0) (r.over (i / 64) (omega arith) (omega arith))))
        ∙ bit-zero (i % 64)

    last : (k : ℕ) → suc k ≡ m → word_of (member ws) k ≡ 0 → ⊥
    last k e z =
        eqb-false (get_or ws k 0) 0 (not-true (eqb (get_or ws k 0) 0) (r.last k e))
        (pack_is 64 (get_or ws k 0) (λ j. member ws (64 * k + j)) (f k) (λ j l. sym (member-at ws k j l)) ∙ z)

-- of the first n words of a store
pub trimmed-view : (ws : List ℕ) (n : ℕ) → n ≤ length ws → Fit (take n ws) → trimmed_count (view ws n).members n ≡ nonzero_len (take n ws)
trimmed-view ws n h f =
    ap (λ (s : ℕ → Bool). trimmed_count s n) (view-whole ws n h)
    ∙ ap (trimmed_count (member (take n ws))) (sym (length-take-le n ws h))
    ∙ trimmed_words (take n ws) f

pub bounded_trimmed : (b : Bits) → Bounded b → Bounded (trimmed b)
bounded_trimmed b h = record {
  past = λ i p. by_lt i (64 * b.count) (λ l. trimmed-past b.members b.count i p l) (λ l. h.past i l);
}

-- ---- a result that is trimmed, by the words that a call left: the first u of them hold the set, and nothing of it lies past them

module _ (ws' : List ℕ) (u : ℕ) (s : Bits) (fit : Fit ws') (h : u ≤ length ws') (low : u ≤ s.count)
    (bits : (k j : ℕ) → k < u → j < 64 → bit (get_or ws' k 0) j ≡ s.members (64 * k + j))
    (none : (i : ℕ) → 64 * u ≤ i → i < 64 * s.count → s.members i ≡ false) where
  long : length (take u ws') ≡ u
  long = length-take-le u ws' h

  found : Top (λ k. not (eqb (get_or (take u ws') k 0) 0)) (length (take u ws')) (nonzero_len (take u ws'))
  unfolding nonzero_len
  found = top (λ k. not (eqb (get_or (take u ws') k 0) 0)) (length (take u ws'))

  m_le : nonzero_len (take u ws') ≤ u
  m_le = omega (arith, found.within, long)

  zero_word : (k : ℕ) → nonzero_len (take u ws') ≤ k → k < u → get_or ws' k 0 ≡ 0
  zero_word k a b =
      sym (get_or-take u ws' k 0 b)
      ∙ eqb-true (get_or (take u ws') k 0) 0 (not-false (eqb (get_or (take u ws') k 0) 0) (found.over k a (omega (arith, long))))

  pub trimmed-length : nonzero_len (take u ws') ≡ trimmed_count s.members s.count
  unfolding word_of
  trimmed-length =
      sym
      (trimmed_is s.members s.count (nonzero_len (take u ws')) (omega (arith, m_le))
      (λ i a b. by_lt i (64 * u)
      (λ l.
      ap s.members (sym (at_place i)) ∙ sym (bits (i / 64) (i % 64) (omega arith) (omega arith))
      ∙ ap (λ (x : ℕ). bit x (i % 64)) (zero_word (i / 64) (omega arith) (omega arith)) ∙ bit-zero (i % 64))
      (λ l. none i l b))
      (λ k e z.
      eqb-false (get_or (take u ws') k 0) 0 (not-true (eqb (get_or (take u ws') k 0) 0) (found.last k e))
      (get_or-take u ws' k 0 (omega (arith, m_le))
      ∙ pack_is 64 (get_or ws' k 0) (λ j. s.members (64 * k + j)) (fit k) (λ j l. bits k j (omega (arith, m_le)) l) ∙ z)))

  pub trimmed_stored : (ws : List ℕ) (n : ℕ) → n ≤ u → length ws' ≡ length ws → ((k : ℕ) → nonzero_len (take u ws') ≤ k → n ≤ k → get_or ws' k 0 ≡ get_or ws k 0)
      → Stored ws n (trimmed s) ws'
  trimmed_stored ws n l e keep = record {
    long = e;
    fits = λ k p. fit k;
    used = λ k j p q. bits k j (omega (arith, m_le, trimmed-length)) q;
    dropped = λ k p q. zero_word k (omega (arith, trimmed-length)) (omega arith);
    kept = λ k p q. keep k (omega (arith, trimmed-length)) q;
  }

-- past the last nonzero word in use there is no member, and that word has one
pub front_none : (ws : List ℕ) (n k j : ℕ) → n ≤ length ws → nonzero_len (take n ws) ≤ k → j < 64 → (view ws n).members (64 * k + j) ≡ false
unfolding nonzero_len
front_none ws n k j h l m =
    by_lt k n
    (λ p.
    view_in ws n k j p m
    ∙ ap (λ (x : ℕ). bit x j)
    (sym (get_or-take n ws k 0 p)
    ∙ eqb-true (get_or (take n ws) k 0) 0
    (not-false (eqb (get_or (take n ws) k 0) 0) ((top (λ k. not (eqb (get_or (take n ws) k 0) 0)) (length (take n ws))).over k l (omega (arith, length-take-le n ws h)))))
    ∙ bit-zero j)
    (λ p. view_out ws n (64 * k + j) (omega arith))

pub front-last : (ws : List ℕ) (n k : ℕ) → n ≤ length ws → suc k ≡ nonzero_len (take n ws) → get_or ws k 0 ≡ 0 → ⊥
unfolding nonzero_len
front-last ws n k h e z =
    let r : Top (λ k. not (eqb (get_or (take n ws) k 0) 0)) (length (take n ws)) (suc k) =
    subst (Top (λ k. not (eqb (get_or (take n ws) k 0) 0)) (length (take n ws))) (sym e) (top (λ k. not (eqb (get_or (take n ws) k 0) 0)) (length (take n ws))) in
    eqb-false (get_or (take n ws) k 0) 0 (not-true (eqb (get_or (take n ws) k 0) 0) (r.last k refl))
    (get_or-take n ws k 0 (omega (arith, r.within, length-take-le n ws h)) ∙ z)

pub front-zero : (ws : List ℕ) (n k : ℕ) → n ≤ length ws → nonzero_len (take n ws) ≤ k → k < n → get_or ws k 0 ≡ 0
unfolding nonzero_len
front-zero ws n k h l p =
    sym (get_or-take n ws k 0 p)
    ∙ eqb-true (get_or (take n ws) k 0) 0
    (not-false (eqb (get_or (take n ws) k 0) 0) ((top (λ k. not (eqb (get_or (take n ws) k 0) 0)) (length (take n ws))).over k l (omega (arith, length-take-le n ws h))))
