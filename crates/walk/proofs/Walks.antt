-- A walk to the least member from a place on, word by word.
use mathlib.Core.Path.{◌≡◌, refl, sym, ap, ap₂, ◌∙◌, subst}
use mathlib.Core.Bool.{Bool, true, false, ◌&&◌, false≢true}
use mathlib.Core.List.{List}
use Prim.Native.Nat.{ℕ, ◌+◌, ◌-◌, ◌*◌, ◌/◌, ◌%◌, ◌^◌, ◌≤◌, ◌<◌}
use native.Mathlib.Nat.{mod-lt}
use native.Mathlib.Omega.{arith}
use lib.ListN.{length, get_or, take}
use lib.Dec.{leb}
use lib.Pow.{pow_pos}
use borrow.Author.Tests.{lt-ltb, le-ltb, le-leb, lt-leb, leb-true}
use Rattle.word.specs.Sets.{choose, least_from, Least}
use Rattle.word.specs.Places.{bit, member}
use Rattle.word.proofs.Cases.{by_lt, by_eq, and-true, zero_one}
use Rattle.word.proofs.Places.{bit-zero, bit_from}
use Rattle.word.proofs.Sets.{least, least_is}
use Rattle.word.proofs.Words.{least_bit}
use Rattle.word.proofs.Lists.{Fit, past, at_place, member-at, member-past}
use Rattle.storage.specs.Stores.{Bits, store_limit, checked, combined, found_below, next_from}
use Rattle.storage.specs.Kernels.{all_words}
use Rattle.storage.specs.Guards.{PassedTwo}
use Rattle.storage.specs.declared.Bitmap.{Bitmap}
use Rattle.storage.specs.declared.Refused.{Refused}
use Rattle.storage.proofs.Checks.{both_raised}
use Rattle.storage.proofs.Combined.{both_read, all-count, all-member}
use Rattle.arch.specs.Scans.{Alike}
use Rattle.pairs.specs.Pairs.{words_by}
use Rattle.pairs.specs.declared.SetOp.{SetOp}
use Rattle.pairs.proofs.Tables.{by_length}
use Rattle.walk.specs.Walks.{walk_of}
use Rattle.walk.specs.Kernels.{Clear, NextBelow}
use Rattle.storage.specs.Refusals.{Found, passing, refusing}
use Rattle.std.specs.Prelude.{Option, Ok, Err, Some, None, IsErr, IsErrAnd}

-- no member from i on is below word k, and w has those of word k that are
record Ahead (c : Bits) (i k w : ℕ) : Type 0 where
  fits : w < 2 ^ 64
  near : i < 64 * k + 64
  under : (q : ℕ) → i ≤ q → q < 64 * k → c.members q ≡ false
  bits : (j : ℕ) → j < 64 → bit w j ≡ leb i (64 * k + j) && c.members (64 * k + j)

ahead_start : {c : Bits} (i x : ℕ) → ((j : ℕ) → j < 64 → bit x j ≡ c.members (64 * (i / 64) + j))
    → Ahead c i (i / 64) (x / 2 ^ (i % 64) * 2 ^ (i % 64) % 2 ^ 64)
ahead_start {c} i x h = record {
  fits = mod-lt _ (pow_pos 64);
  near = omega arith;
  under = λ q p l. absurd (omega arith);
  bits = λ j l. bit_from x (i % 64) 64 j l ∙ ap₂ (λ (p q : Bool). p && q) (same j) (h j l);
}
  where
    same : (j : ℕ) → leb (i % 64) j ≡ leb i (64 * (i / 64) + j)
    same j =
        by_lt j (i % 64)
        (λ p. lt-leb (i % 64) j p ∙ sym (lt-leb i (64 * (i / 64) + j) (omega arith)))
        (λ p. le-leb (i % 64) j p ∙ sym (le-leb i (64 * (i / 64) + j) (omega arith)))

-- where w is 0, no member from i on is below the next word
ahead_passed : {c : Bits} {i k w : ℕ} → Ahead c i k w → w ≡ 0 → (q : ℕ) → i ≤ q → q < 64 * (k + 1) → c.members q ≡ false
ahead_passed {c} {i} {k} {w} a e q p l =
    by_lt q (64 * k)
    (λ h. a.under q p h)
    (λ h.
    let j : ℕ = q - 64 * k in
    let s : 64 * k + j ≡ q = omega arith in
    ap (λ (t : Bool). t && c.members q) (sym (le-leb i q p))
    ∙ ap (λ (y : ℕ). leb i y && c.members y) (sym s)
    ∙ sym (a.bits j (omega arith)) ∙ ap (λ (y : ℕ). bit y j) e ∙ bit-zero j)

-- ---- where it stops

-- p is the least member from i on
found_is : (c : Bits) (i p : ℕ) → p < 64 * c.count → i ≤ p → c.members p ≡ true → ((q : ℕ) → i ≤ q → q < p → c.members q ≡ false) → Ok (Some p) ≡ next_from c i
unfolding next_from found_below
found_is c i p l h e u =
    sym
    (ap (found_below (64 * c.count))
    (least_is c.members i (64 * c.count - i) p (record { from = h; within = omega arith; here = λ m. e; under = u }))
    ∙ ap (λ (t : Bool). choose t (Ok (Some p)) (Ok None)) (lt-ltb p (64 * c.count) l))

none_is : (c : Bits) (i : ℕ) → ((q : ℕ) → i ≤ q → q < 64 * c.count → c.members q ≡ false) → Ok None ≡ next_from c i
unfolding next_from found_below
none_is c i u = sym (ap (λ (t : Bool). choose t (Ok (Some p)) (Ok None)) (le-ltb p (64 * c.count) past))
  where
    p : ℕ
    p = least_from c.members i (64 * c.count - i)

    r : Least c.members i (i + (64 * c.count - i)) p
    r = least c.members i (64 * c.count - i)

    past : 64 * c.count ≤ p
    past = by_lt p (64 * c.count) (λ l. absurd (false≢true (sym (u p r.from l) ∙ r.here (omega (arith, r.from))))) (λ l. l)

-- the least bit of w
ahead_bit : {c : Bits} {i k w : ℕ} → Ahead c i k w → (w ≡ 0 → ⊥)
    → (least_from (bit w) 0 64 < 64) × (leb i (64 * k + least_from (bit w) 0 64) ≡ true) × (c.members (64 * k + least_from (bit w) 0 64) ≡ true)
ahead_bit {c} {i} {k} {w} a z =
    let l : least_from (bit w) 0 64 < 64 = least_bit 64 w (by_eq w 0 (λ e. absurd (z e)) (λ e. omega arith)) a.fits in
    let b = and-true (leb i (64 * k + least_from (bit w) 0 64)) (c.members (64 * k + least_from (bit w) 0 64))
    (sym (a.bits (least_from (bit w) 0 64) l) ∙ (least (bit w) 0 64).here (omega arith)) in
    (l, b.0, b.1)

ahead_found : {c : Bits} {i k w t : ℕ} → Ahead c i k w → (w ≡ 0 → ⊥) → k < c.count → t ≡ least_from (bit w) 0 64 → Ok (Some (64 * k + t)) ≡ next_from c i
ahead_found {c} {i} {k} {w} {t} a z h e =
    let b = ahead_bit a z in
    let j : ℕ = least_from (bit w) 0 64 in
    let m : j < 64 = b.0 in
    ap (λ (y : ℕ). Ok (Some (64 * k + y))) e
    ∙ found_is c i (64 * k + j) (omega arith) (leb-true i (64 * k + j) b.1) b.2
    (λ q p l.
    by_lt q (64 * k)
    (λ h. a.under q p h)
    (λ h.
    let y : ℕ = q - 64 * k in
    let s : 64 * k + y ≡ q = omega arith in
    ap (λ (u : Bool). u && c.members q) (sym (le-leb i q p))
    ∙ ap (λ (u : ℕ). leb i u && c.members u) (sym s)
    ∙ sym (a.bits y (omega arith)) ∙ (least (bit w) 0 64).under y (omega arith) (omega arith)))

pub least64 : (w : ℕ) → least_from (bit w) 0 64 ≤ 64
least64 w = (least (bit w) 0 64).within

-- ---- the words of a list

-- a word that is not 0 is one of the longer list's
pub word_below : (op : SetOp) (xs ys : List ℕ) (k x : ℕ) → x ≡ get_or (words_by op xs ys) k 0 → (x ≡ 0 → ⊥) → length xs ≤ store_limit → length ys ≤ store_limit → k < store_limit
word_below op xs ys k x e z h l =
    by_lt k (length (words_by op xs ys)) (λ m. omega (arith, by_length op xs ys)) (λ m. absurd (z (e ∙ past (words_by op xs ys) k m)))

module _ (ws : List ℕ) (fit : Fit ws) where
  abbrev set : Bits
  set = all_words ws

  word_bits : (k x : ℕ) → x ≡ get_or ws k 0 → (j : ℕ) → j < 64 → bit x j ≡ (all_words ws).members (64 * k + j)
  word_bits k x e j l = ap (λ (y : ℕ). bit y j) e ∙ sym (member-at ws k j l) ∙ sym (all-member ws (64 * k + j))

  -- past words that are 0 it is clear
  pub clear_on : {i k e : ℕ} → Clear ws i k → k ≤ e → Alike ws 0 k e → Clear ws i e
  clear_on {i} {k} {e} c h z = record {
    far = omega (arith, c.far);
    none = λ q p l. by_lt q (64 * k) (λ m. c.none q p m) (λ m.
        ap (member ws) (sym (at_place q)) ∙ member-at ws (q / 64) (q % 64) (omega arith)
        ∙ ap (λ (y : ℕ). bit y (q % 64)) (z.at (q / 64) (omega arith) (omega arith)) ∙ bit-zero (q % 64));
  }

  module _ (i x : ℕ) (e : x ≡ get_or ws (i / 64) 0) where
    abbrev here : ℕ
    here = x / 2 ^ (i % 64) * 2 ^ (i % 64) % 2 ^ 64

    ahead : Ahead (all_words ws) i (i / 64) (x / 2 ^ (i % 64) * 2 ^ (i % 64) % 2 ^ 64)
    ahead = ahead_start i x (word_bits (i / 64) x e)

    pub next_here : {v : ℕ} → (here ≡ 0 → ⊥) → v ≡ least_from (bit here) 0 64 → Ok (Some (64 * (i / 64) + v)) ≡ next_from (all_words ws) i
    next_here z t = ahead_found ahead z (omega (arith, all-count ws, inside)) t
      where
        inside : i / 64 < length ws
        inside =
            let b = ahead_bit ahead z in
            let p : ℕ = 64 * (i / 64) + least_from (bit here) 0 64 in
            by_lt (i / 64) (length ws) (λ l. l) (λ l. absurd (false≢true (sym (all-member ws p ∙ member-past ws p (omega arith)) ∙ b.2)))

    pub here_below : (here ≡ 0 → ⊥) → least_from (bit here) 0 64 < 64
    here_below z = (ahead_bit ahead z).0

    pub clear_here : here ≡ 0 → Clear ws i (i / 64 + 1)
    clear_here z = record { far = omega arith; none = λ q p l. sym (all-member ws q) ∙ ahead_passed ahead z q p l }

  -- further on, past words that are 0
  module _ {i k : ℕ} (c : Clear ws i k) where
    pub next_later : {y v : ℕ} → y ≡ get_or ws k 0 → (y ≡ 0 → ⊥) → v ≡ least_from (bit y) 0 64 → Ok (Some (64 * k + v)) ≡ next_from (all_words ws) i
    next_later {y} g n t = ahead_found there n (by_lt k (length ws) (λ l. omega (arith, all-count ws)) (λ l. absurd (n (g ∙ past ws k l)))) t
      where
        there : Ahead (all_words ws) i k y
        there = record {
          fits = subst (λ (x : ℕ). x < 2 ^ 64) (sym g) (fit k);
          near = omega (arith, c.far);
          under = λ q a l. all-member ws q ∙ c.none q a l;
          bits = λ j l. word_bits k y g j l ∙ ap (λ (t : Bool). t && (all_words ws).members (64 * k + j)) (sym (le-leb i (64 * k + j) (omega (arith, c.far))));
        }

    pub next_none : length ws ≤ k → Ok None ≡ next_from (all_words ws) i
    next_none l = none_is (all_words ws) i (λ q a m. all-member ws q ∙ c.none q a (omega (arith, all-count ws)))

-- ---- the answer of a part of the walk

pub below_at : {ws : List ℕ} {i k p : ℕ} → Ok (Some p) ≡ next_from (all_words ws) i → NextBelow ws i k (Some p)
below_at e = record { found = λ n. e; nothing = λ q. zero_one cc }

pub below_none : {ws : List ℕ} {i k : ℕ} → Clear ws i k → NextBelow ws i k None
below_none c = record { found = λ n. absurd (n refl); nothing = λ q. c }

pub below_found : {ws : List ℕ} {i k p : ℕ} {r : Option ℕ} → NextBelow ws i k r → r ≡ Some p → Ok (Some p) ≡ next_from (all_words ws) i
below_found {p = p} h e = ap Ok (sym e) ∙ h.found (λ q. let t : Some p ≡ None = sym e ∙ q in zero_one cc)

-- ---- the call

module _ (op : SetOp) (ws : List ℕ) (b : Bitmap) (os : List ℕ) (o : Bitmap) where
  pub walk_raised : (i : ℕ) {r : Found} {e : Refused} → IsErr r × IsErrAnd r (λ x. x ≡ e.0) → Err e ≡ checked ws b (refusing b) (checked os o (refusing b) passing)
      → r ≡ walk_of op ws b os o i
  unfolding walk_of
  walk_raised i q p = both_raised ws b os o (λ s t. next_from (combined op s t) i) q p

  pub walked : (i : ℕ) {r : Found} → PassedTwo ws b os o → r ≡ next_from (all_words (words_by op (take b.count ws) (take o.count os))) i → r ≡ walk_of op ws b os o i
  unfolding walk_of
  walked i p e = e ∙ sym (both_read op ws b os o Err (λ c. next_from c i) p)
