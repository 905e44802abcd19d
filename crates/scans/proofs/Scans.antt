-- The scans, the greatest member and the count, from what the kernels leave.
use mathlib.Core.Path.{◌≡◌, sym, ap, ◌∙◌}
use mathlib.Core.Bool.{Bool, not}
use mathlib.Core.List.{List}
use mathlib.Core.Logic.{inl, inr}
use Prim.Native.Nat.{ℕ, ◌+◌, ◌-◌, ◌*◌, ◌/◌, ◌^◌, ◌≤◌, ◌<◌}
use native.Mathlib.Omega.{arith}
use lib.ListN.{length, get_or, take, drop}
use lib.Seq.{get_or-take, get_or-drop}
use lib.Pow.{ones_sub-lt}
use lib.Dec.{ltb}
use borrow.Author.Tests.{lt-ltb, le-ltb, eq-eqb, ne_eqb}
use Rattle.word.specs.Sets.{choose, least_from, top_below, Top}
use Rattle.word.specs.Places.{bit}
use Rattle.word.specs.Words.{all_ones}
use Rattle.word.proofs.Places.{bit_not}
use Rattle.word.proofs.Sets.{least, top, top_is}
use Rattle.word.proofs.Lists.{Fit, fit_part}
use Rattle.word.proofs.Sweep.{part_long}
use Rattle.arch.specs.Scans.{Alike, first_other, word_found, nonzero_len, count_set}
use Rattle.arch.specs.Promises.{FirstOther}
use Rattle.arch.proofs.Promises.{first_other_lem}
use Rattle.storage.specs.Stores.{view, held, size, found_below, next_from, trimmed_count, words_for}
use Rattle.storage.specs.Guards.{Passed}
use Rattle.storage.specs.declared.Bitmap.{Bitmap}
use Rattle.storage.proofs.Views.{view_in}
use Rattle.storage.proofs.Trims.{trimmed-view}
use Rattle.storage.proofs.Sizes.{size-counted}
use Rattle.scans.specs.Searches.{last_set, next_clear}
use Rattle.scans.proofs.Firsts.{Words, First, kept_first, first_here, first_after, first_none}
use Rattle.std.specs.Prelude.{Ok, Some, None}

-- a count of trailing zeros
pub zeros_le : (x z : ℕ) → z ≡ least_from (bit x) 0 64 → z ≤ 64
zeros_le x z e = omega (arith, (least (bit x) 0 64).within)

-- ---- the words of the members, and of the others

set_words : (ws : List ℕ) (n : ℕ) → Fit ws → Words (view ws n).members (λ k. get_or ws k 0) n
set_words ws n f = record { fits = f; at = λ k j h l. sym (view_in ws n k j h l) }

clear_words : (ws : List ℕ) (n : ℕ) → Fit ws → Words (λ p. not ((view ws n).members p)) (λ k. (2 ^ 64 - 1) - get_or ws k 0) n
clear_words ws n f = record {
  fits = λ k. ones_sub-lt 64 (get_or ws k 0);
  at = λ k j h l. bit_not (get_or ws k 0) 64 j (f k) l ∙ ap not (sym (view_in ws n k j h l));
}

-- ---- what a search in the words after the first one tells

other_there : (x : ℕ) (ws : List ℕ) (k w : ℕ) → FirstOther x ws 1 k w → (k < length ws) × (w ≡ get_or ws k 0) × ¬ (w ≡ x) × Alike ws x 0 k
other_there x ws k w (inl r) = (r.1, r.2, r.3, r.4)
other_there x ws k w (inr r) = absurd (omega (arith, r.0))

all_alike : (x : ℕ) (ws : List ℕ) (k w : ℕ) → FirstOther x ws 0 k w → Alike ws x 0 (length ws)
all_alike x ws k w (inl r) = absurd (omega (arith, r.0))
all_alike x ws k w (inr r) = r.3

-- the words of the part that starts at word a and ends before word n
module _ (ws : List ℕ) (a n : ℕ) where
  abbrev part : List ℕ
  part = take (n - a) (drop a ws)

  part_at : (k : ℕ) → k < n - a → get_or part k 0 ≡ get_or ws (a + k) 0
  part_at k l = get_or-take (n - a) (drop a ws) k 0 l ∙ get_or-drop a ws k 0

  -- a word found: it is there, it is not x, and those before it are
  pub record Other (x p y : ℕ) : Type 0 where
    pub inside : a + p < n
    pub word : y ≡ get_or ws (a + p) 0
    pub other : y ≡ x → ⊥
    pub before : (m : ℕ) → a ≤ m → m < a + p → get_or ws m 0 ≡ x

  pub other_found : (x p y : ℕ) → n ≤ length ws → Some (p, y) ≡ word_found part (first_other x part) → Other x p y
  other_found x p y h e =
      let r = other_there x part p y (first_other_lem x part (Some (p, y)) e) in
      let l : p < n - a = omega (arith, r.0, part_long ws a n h) in
      record {
        inside = omega arith;
        word = r.1 ∙ part_at p l;
        other = r.2;
        before = λ m q s.
            let e : a + (m - a) ≡ m = omega arith in
            ap (λ (k : ℕ). get_or ws k 0) (sym e) ∙ sym (part_at (m - a) (omega arith)) ∙ r.3.at (m - a) (omega arith) (omega arith);
      }

  pub none_found : (x : ℕ) → n ≤ length ws → None ≡ word_found part (first_other x part) → (m : ℕ) → a ≤ m → m < n → get_or ws m 0 ≡ x
  none_found x h e m q s =
      let r : Alike part x 0 (length part) = all_alike x part 0 0 (first_other_lem x part None e) in
      let e : a + (m - a) ≡ m = omega arith in
      ap (λ (k : ℕ). get_or ws k 0) (sym e) ∙ sym (part_at (m - a) (omega arith)) ∙ r.at (m - a) (omega arith) (omega (arith, part_long ws a n h))

-- ---- the least member from i on

module _ (ws : List ℕ) (n i : ℕ) where
  next-at : (p : ℕ) → First (view ws n).members n i p → Ok (Some p) ≡ next_from (view ws n) i
  unfolding next_from found_below view
  next-at p f =
      sym
      (ap (λ (q : ℕ). choose (ltb q (64 * n)) (Ok (Some q)) (Ok None)) f.is
      ∙ ap (λ (t : Bool). choose t (Ok (Some p)) (Ok None)) (lt-ltb p (64 * n) f.inside))

  next-not : 64 * n ≤ least_from (view ws n).members i (64 * n - i) → (Ok None) ≡ next_from (view ws n) i
  unfolding next_from found_below view
  next-not h =
      let q : ℕ = least_from (view ws n).members i (64 * n - i) in
      sym (ap (λ (t : Bool). choose t (Ok (Some q)) (Ok None)) (le-ltb q (64 * n) h))

  pub set_past : n ≤ i / 64 → (Ok None) ≡ next_from (view ws n) i
  set_past h = next-not (omega (arith, (least (view ws n).members i (64 * n - i)).from))

  pub clear_past : n ≤ i / 64 → i ≡ next_clear (view ws n) i
  unfolding next_clear view least_from
  clear_past h = let e : 64 * n - i ≡ 0 = omega arith in sym (ap (least_from (λ p. not ((view ws n).members p)) i) e)

  module _ (f : Fit ws) (inside : i / 64 < n) where
    pub set_here : (z : ℕ) → (kept_first (get_or ws (i / 64) 0) i ≡ 0 → ⊥)
        → z ≡ least_from (bit (kept_first (get_or ws (i / 64) 0) i)) 0 64 → Ok (Some (64 * (i / 64) + z)) ≡ next_from (view ws n) i
    set_here z nz e = next-at (64 * (i / 64) + z) (first_here _ _ n (set_words ws n f) i inside z nz e)

    pub clear_here : (z : ℕ) → (kept_first ((2 ^ 64 - 1) - get_or ws (i / 64) 0) i ≡ 0 → ⊥)
        → z ≡ least_from (bit (kept_first ((2 ^ 64 - 1) - get_or ws (i / 64) 0) i)) 0 64
        → 64 * (i / 64) + z ≡ next_clear (view ws n) i
    unfolding next_clear view
    clear_here z nz e = sym (first_here _ _ n (clear_words ws n f) i inside z nz e).is

    module _ (long : n ≤ length ws) where
      pub set_after : (p y z : ℕ) → kept_first (get_or ws (i / 64) 0) i ≡ 0 → Other ws (i / 64 + 1) n 0 p y
          → z ≡ least_from (bit y) 0 64 → Ok (Some (64 * (i / 64 + 1 + p) + z)) ≡ next_from (view ws n) i
      set_after p y z none o e =
          next-at (64 * (i / 64 + 1 + p) + z)
          (first_after _ _ n (set_words ws n f) i inside none (i / 64 + 1 + p) (omega (arith, o.inside)) o.before
          z o.inside (omega arith) (λ q. o.other (o.word ∙ q)) (e ∙ ap (λ (x : ℕ). least_from (bit x) 0 64) o.word))

      pub set_none : kept_first (get_or ws (i / 64) 0) i ≡ 0
          → ((m : ℕ) → i / 64 + 1 ≤ m → m < n → get_or ws m 0 ≡ 0) → (Ok None) ≡ next_from (view ws n) i
      set_none none zeros =
          next-not (omega (arith, first_none _ _ n (set_words ws n f) i inside none n (omega arith) zeros (omega arith)))

      pub clear_after : (p y z : ℕ) → kept_first ((2 ^ 64 - 1) - get_or ws (i / 64) 0) i ≡ 0 → Other ws (i / 64 + 1) n all_ones p y
          → z ≡ least_from (bit ((2 ^ 64 - 1) - y)) 0 64 → 64 * (i / 64 + 1 + p) + z ≡ next_clear (view ws n) i
      unfolding next_clear view
      clear_after p y z none o e =
          sym
          (first_after _ _ n (clear_words ws n f) i inside none (i / 64 + 1 + p) (omega (arith, o.inside))
          (λ m a l. omega (arith, o.before m a l))
          z o.inside (omega arith) (λ q. o.other (omega (arith, o.word, f (i / 64 + 1 + p))))
          (e ∙ ap (λ (x : ℕ). least_from (bit ((2 ^ 64 - 1) - x)) 0 64) o.word)).is

      pub clear_none : kept_first ((2 ^ 64 - 1) - get_or ws (i / 64) 0) i ≡ 0
          → ((m : ℕ) → i / 64 + 1 ≤ m → m < n → get_or ws m 0 ≡ all_ones) → 64 * n ≡ next_clear (view ws n) i
      unfolding next_clear view
      clear_none none ones =
          sym (first_none _ _ n (clear_words ws n f) i inside none n (omega arith) (λ m a l. omega (arith, ones m a l)) (omega arith))

-- ---- the greatest member

module _ (ws : List ℕ) (n m : ℕ) (h : n ≤ length ws) (f : Fit ws) (e : m ≡ nonzero_len (take n ws)) where
  abbrev t : ℕ
  t = top_below (view ws n).members (64 * n)

  top_word : (t + 63) / 64 ≡ m
  unfolding trimmed_count words_for
  top_word = trimmed-view ws n h (fit_part ws n f h) ∙ sym e

  nonzero_le : m ≤ n
  nonzero_le = omega (arith, top_word, (top (view ws n).members (64 * n)).within)

  pub last_none : m ≡ 0 → (Ok None) ≡ last_set (view ws n)
  unfolding last_set view
  last_none q = sym (ap (λ (b : Bool). choose b (Ok None) (Ok (Some (t - 1)))) (eq-eqb t 0 (omega (arith, top_word))))

  -- the top of the last word that is not 0
  top_in : 0 < m → top_below (bit (get_or ws (m - 1) 0)) 64 ≡ t - 64 * (m - 1)
  top_in p =
      let r : Top (view ws n).members (64 * n) t = top (view ws n).members (64 * n) in
      let same : (j : ℕ) → j < 64 → bit (get_or ws (m - 1) 0) j ≡ (view ws n).members (64 * (m - 1) + j) =
      λ j l. sym (view_in ws n (m - 1) j (omega (arith, nonzero_le)) l) in
      top_is (bit (get_or ws (m - 1) 0)) 64 (t - 64 * (m - 1))
      (record {
        within = omega (arith, top_word);
        last = λ k q. same k (omega (arith, top_word)) ∙ r.last (64 * (m - 1) + k) (omega arith);
        over = λ k a b. same k b ∙ r.over (64 * (m - 1) + k) (omega arith) (omega (arith, nonzero_le));
      })

  pub zeros_less : (z : ℕ) → 0 < m → z ≡ 64 - top_below (bit (get_or ws (m - 1) 0)) 64 → z ≤ 64 * m - 1
  zeros_less z p q = omega (arith, top_in p, top_word)

  pub last-at : (z : ℕ) → 0 < m → z ≡ 64 - top_below (bit (get_or ws (m - 1) 0)) 64 → Ok (Some (64 * m - 1 - z)) ≡ last_set (view ws n)
  unfolding last_set view
  last-at z p q =
      let e : 64 * m - 1 - z ≡ t - 1 = omega (arith, top_in p, top_word) in
      ap (λ (x : ℕ). Ok (Some x)) e ∙ sym (ap (λ (b : Bool). choose b (Ok None) (Ok (Some (t - 1)))) (ne_eqb t 0 (λ x. omega (arith, top_word))))

-- ---- the count

pub count_is : (ws : List ℕ) (b : Bitmap) (c : ℕ) → Passed ws b → c ≡ count_set (take b.count ws) → c ≡ size (held ws b)
count_is ws b c p e = e ∙ size-counted ws b p
