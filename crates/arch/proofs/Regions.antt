-- Whole words filled, and the region of bits that two edge words and the words between make up.
use Rattle.std.proofs.Common.{◌≡◌, ℕ, ◌+◌, ◌-◌, ◌*◌, ◌/◌, ◌^◌, ◌<◌, ◌≤◌, min, max, Bool, true, false, not, ◌&&◌, ◌||◌, ltb, leb, ◌⊎◌, List, length, get_or, set, take, drop, sym, refl, ap, ◌∙◌, subst, ap₂, inl, inr, arith, length-set, get_or-set_other, le-ltb, lt-ltb, le-leb}
use lib.Bits.{bit_and, bit_or, and_lt, or_lt}
use lib.Pow.{ones_sub-lt}
use Rattle.std.proofs.lemmas.List.{get_or-replicate, length-replicate}
use Rattle.std.specs.Prelude.{replicate}
use borrow.Author.Tests.{lt-leb}
use borrow.Rule.Slice.PartMut.{put_mid}
use Rattle.word.specs.Sets.{choose}
use Rattle.word.specs.Places.{bit, word_of, member, words_of}
use Rattle.word.specs.Words.{all_ones, low_mask}
use Rattle.word.proofs.Cases.{by_lt, by_eq, and-false}
use Rattle.word.proofs.Places.{bit-and, bit-or, bit_not, bit_ones, bit-zero, bit-pack, pack-lt, pack_is}
use Rattle.word.proofs.Words.{bit-low_mask, low_mask-lt}
use Rattle.word.proofs.Lists.{Fit, past, length_tab, tab_at, tab_is, member-at}
use Rattle.word.proofs.Sweep.{Swept, get_d_set, part_long, part_swept}
use Rattle.arch.specs.Scans.{filled_words, filled}
use Rattle.arch.specs.Kernels.{places_in, filled_places}

-- ---- whole words

pub length-filled_words : (a e x : ℕ) (ws : List ℕ) → length (filled_words a e x ws) ≡ length ws
unfolding filled_words
length-filled_words a e x ws = length_tab 0 (length ws) (λ k. choose (leb a k && ltb k e) x (get_or ws k 0))

filled-word : (a e x : ℕ) (ws : List ℕ) (k : ℕ) → k < length ws → get_or (filled_words a e x ws) k 0 ≡ choose (leb a k && ltb k e) x (get_or ws k 0)
unfolding filled_words
filled-word a e x ws k h = tab_at (length ws) (λ k. choose (leb a k && ltb k e) x (get_or ws k 0)) k h

pub filled_in : (a e x : ℕ) (ws : List ℕ) (k : ℕ) → k < length ws → a ≤ k → k < e → get_or (filled_words a e x ws) k 0 ≡ x
filled_in a e x ws k h p q = filled-word a e x ws k h ∙ ap₂ (λ (s t : Bool). choose (s && t) x (get_or ws k 0)) (le-leb a k p) (lt-ltb k e q)

pub filled_below : (a e x : ℕ) (ws : List ℕ) (k : ℕ) → k < a → get_or (filled_words a e x ws) k 0 ≡ get_or ws k 0
filled_below a e x ws k p =
    by_lt k (length ws)
    (λ h. filled-word a e x ws k h ∙ ap (λ (s : Bool). choose (s && ltb k e) x (get_or ws k 0)) (lt-leb a k p))
    (λ h. past (filled_words a e x ws) k (omega (arith, length-filled_words a e x ws)) ∙ sym (past ws k h))

pub filled_above : (a e x : ℕ) (ws : List ℕ) (k : ℕ) → e ≤ k → get_or (filled_words a e x ws) k 0 ≡ get_or ws k 0
filled_above a e x ws k p =
    by_lt k (length ws)
    (λ h.
    filled-word a e x ws k h
    ∙ ap (λ (t : Bool). choose (leb a k && t) x (get_or ws k 0)) (le-ltb k e p)
    ∙ ap (λ (t : Bool). choose t x (get_or ws k 0)) (and-false (leb a k)))
    (λ h. past (filled_words a e x ws) k (omega (arith, length-filled_words a e x ws)) ∙ sym (past ws k h))

-- a sweep of one value, up to e or the end
pub filled_is : (a e i x : ℕ) (ws ws' : List ℕ) → Swept ws (λ k. x) a i ws' → i ≤ max a (min e (length ws)) → min e (length ws) ≤ i → ws' ≡ filled_words a e x ws
unfolding filled_words
filled_is a e i x ws ws' s l end =
    tab_is (length ws) (λ k. choose (leb a k && ltb k e) x (get_or ws k 0)) ws' s.long
    (λ k h. at k h)
  where
    at : (k : ℕ) → k < length ws → get_or ws' k 0 ≡ choose (leb a k && ltb k e) x (get_or ws k 0)
    at k h =
        by_lt k a
        (λ p. s.below k p ∙ ap (λ (t : Bool). choose (t && ltb k e) x (get_or ws k 0)) (sym (lt-leb a k p)))
        (λ p. by_lt k e
        (λ q. s.fresh k p (omega arith) ∙ ap₂ (λ (t u : Bool). choose (t && u) x (get_or ws k 0)) (sym (le-leb a k p)) (sym (lt-ltb k e q)))
        (λ q. s.above k (omega arith) ∙ ap₂ (λ (t u : Bool). choose (t && u) x (get_or ws k 0)) (sym (le-leb a k p)) (sym (le-ltb k e q))))

-- a part that is x throughout, put back
pub filled_part : (a e i x : ℕ) (ws part : List ℕ) → i ≡ min e (length ws) → a < i → part ≡ replicate (length (take (i - a) (drop a ws))) x
    → put_mid a (i - a) ws part ≡ filled_words a e x ws
filled_part a e i x ws part q l f =
    filled_is a e i x ws (put_mid a (i - a) ws part)
    (record { long = s.long; fresh = λ k p r. s.fresh k p r ∙ at (k - a) (omega arith); below = s.below; above = s.above })
    (omega arith) (omega arith)
  where
    long : length (take (i - a) (drop a ws)) ≡ i - a
    long = part_long ws a i (omega arith)

    at : (k : ℕ) → k < i - a → get_or part k 0 ≡ x
    at k h = ap (λ (ys : List ℕ). get_or ys k 0) f ∙ get_or-replicate (length (take (i - a) (drop a ws))) k x 0 (omega (arith, long))

    s : Swept ws (λ k. get_or part (k - a) 0) a i (put_mid a (i - a) ws part)
    s = part_swept ws part a i (omega arith) (omega arith) (ap length f ∙ length-replicate (length (take (i - a) (drop a ws))) x ∙ long)

-- ---- masks

pub places_is : (from end k lo hi : ℕ) → lo ≡ low_mask 64 (from - 64 * k) → hi ≡ low_mask 64 (end - 64 * k)
    → bit_and hi ((2 ^ 64 - 1) - lo) ≡ places_in from end k
unfolding places_in
places_is from end k lo hi el eh =
    pack_is 64 (bit_and hi ((2 ^ 64 - 1) - lo)) (λ j. leb from (64 * k + j) && ltb (64 * k + j) end)
    (and_lt 64 hi ((2 ^ 64 - 1) - lo) (subst (λ (y : ℕ). y < 2 ^ 64) (sym eh) (low_mask-lt 64 (end - 64 * k))) (ones_sub-lt 64 lo))
    (λ j l.
    bit-and hi ((2 ^ 64 - 1) - lo) j
    ∙ ap₂ (λ (s t : Bool). s && t)
    (ap (λ (y : ℕ). bit y j) eh ∙ bit-low_mask 64 (end - 64 * k) j l)
    (bit_not lo 64 j (subst (λ (y : ℕ). y < 2 ^ 64) (sym el) (low_mask-lt 64 (from - 64 * k))) l
    ∙ ap not (ap (λ (y : ℕ). bit y j) el ∙ bit-low_mask 64 (from - 64 * k) j l))
    ∙ both j)
  where
    upper : (j : ℕ) → ltb j (end - 64 * k) ≡ ltb (64 * k + j) end
    upper j = by_lt (64 * k + j) end (λ p. lt-ltb j (end - 64 * k) (omega arith) ∙ sym (lt-ltb (64 * k + j) end p)) (λ p. le-ltb j (end - 64 * k) (omega arith) ∙ sym (le-ltb (64 * k + j) end p))

    lower : (j : ℕ) → not (ltb j (from - 64 * k)) ≡ leb from (64 * k + j)
    lower j =
        by_lt (64 * k + j) from (λ p. ap not (lt-ltb j (from - 64 * k) (omega arith)) ∙ sym (lt-leb from (64 * k + j) p))
        (λ p. ap not (le-ltb j (from - 64 * k) (omega arith)) ∙ sym (le-leb from (64 * k + j) p))

    comm : (s t : Bool) → s && t ≡ t && s
    comm true true = refl
    comm true false = refl
    comm false true = refl
    comm false false = refl

    both : (j : ℕ) → ltb j (end - 64 * k) && not (ltb j (from - 64 * k)) ≡ leb from (64 * k + j) && ltb (64 * k + j) end
    both j = ap₂ (λ (s t : Bool). s && t) (upper j) (lower j) ∙ comm (ltb (64 * k + j) end) (leb from (64 * k + j))

pub overlaid-set : (x mask : ℕ) → x < 2 ^ 64 → mask < 2 ^ 64 → bit_or x mask ≡ filled_places x mask true
unfolding filled_places
overlaid-set x mask hx hm =
    pack_is 64 (bit_or x mask) (λ j. choose (bit mask j) true (bit x j)) (or_lt 64 x mask hx hm) (λ j l. bit-or x mask j ∙ pick (bit x j) (bit mask j))
  where
    pick : (a m : Bool) → a || m ≡ choose m true a
    pick true true = refl
    pick true false = refl
    pick false true = refl
    pick false false = refl

pub overlaid_clear : (x mask : ℕ) → x < 2 ^ 64 → mask < 2 ^ 64 → bit_and x ((2 ^ 64 - 1) - mask) ≡ filled_places x mask false
unfolding filled_places
overlaid_clear x mask hx hm =
    pack_is 64 (bit_and x ((2 ^ 64 - 1) - mask)) (λ j. choose (bit mask j) false (bit x j))
    (and_lt 64 x ((2 ^ 64 - 1) - mask) hx (ones_sub-lt 64 mask))
    (λ j l. bit-and x ((2 ^ 64 - 1) - mask) j ∙ ap (λ (t : Bool). bit x j && t) (bit_not mask 64 j hm l) ∙ pick (bit x j) (bit mask j))
  where
    pick : (a m : Bool) → a && not m ≡ choose m false a
    pick true true = refl
    pick true false = refl
    pick false true = refl
    pick false false = refl

-- ---- a region of bits

module _ (from end : ℕ) (v : Bool) (ws : List ℕ) (fit : Fit ws) where
  -- the set afterwards, and its word k
  after : ℕ → Bool
  after i = choose (leb from i && ltb i end) v (member ws i)

  word : ℕ → ℕ
  unfolding after
  word k = word_of after k

  word_is : (k x : ℕ) → x < 2 ^ 64 → ((j : ℕ) → j < 64 → bit x j ≡ choose (leb from (64 * k + j) && ltb (64 * k + j) end) v (bit (get_or ws k 0) j)) → x ≡ word k
  unfolding word after word_of
  word_is k x h f =
      pack_is 64 x (λ j. choose (leb from (64 * k + j) && ltb (64 * k + j) end) v (member ws (64 * k + j))) h
      (λ j l. f j l ∙ ap (choose (leb from (64 * k + j) && ltb (64 * k + j) end) v) (sym (member-at ws k j l)))

  overlaid-bit : (k x j : ℕ) → j < 64 → bit (filled_places x (places_in from end k) v) j ≡ choose (leb from (64 * k + j) && ltb (64 * k + j) end) v (bit x j)
  unfolding filled_places places_in
  overlaid-bit k x j l =
      bit-pack 64 (λ j. choose (bit (places_in from end k) j) v (bit x j)) j l
      ∙ ap (λ (t : Bool). choose t v (bit x j)) (bit-pack 64 (λ j. leb from (64 * k + j) && ltb (64 * k + j) end) j l)

  overlaid-lt : (x mask : ℕ) → filled_places x mask v < 2 ^ 64
  unfolding filled_places
  overlaid-lt x mask = pack-lt 64 (λ j. choose (bit mask j) v (bit x j))

  edge : (k x : ℕ) → x ≡ get_or ws k 0 → filled_places x (places_in from end k) v ≡ word k
  edge k x e =
      word_is k (filled_places x (places_in from end k) v) (overlaid-lt x (places_in from end k))
      (λ j l. overlaid-bit k x j l ∙ ap (λ (y : ℕ). choose (leb from (64 * k + j) && ltb (64 * k + j) end) v (bit y j)) e)

  -- an edge word may be done twice
  again : (k x : ℕ) → x ≡ filled_places (get_or ws k 0) (places_in from end k) v → filled_places x (places_in from end k) v ≡ word k
  again k x e =
      word_is k (filled_places x (places_in from end k) v) (overlaid-lt x (places_in from end k))
      (λ j l.
      overlaid-bit k x j l
      ∙ ap (choose (leb from (64 * k + j) && ltb (64 * k + j) end) v) (ap (λ (y : ℕ). bit y j) e ∙ overlaid-bit k (get_or ws k 0) j l)
      ∙ twice (leb from (64 * k + j) && ltb (64 * k + j) end) (bit (get_or ws k 0) j))
    where
      twice : (t b : Bool) → choose t v (choose t v b) ≡ choose t v b
      twice true b = refl
      twice false b = refl

  outside : (k : ℕ) → (64 * k + 63 < from) ⊎ (end ≤ 64 * k) → get_or ws k 0 ≡ word k
  outside k h =
      word_is k (get_or ws k 0) (fit k)
      (λ j l. ap (λ (t : Bool). choose t v (bit (get_or ws k 0) j)) (sym (none j l h)))
    where
      none : (j : ℕ) → j < 64 → (64 * k + 63 < from) ⊎ (end ≤ 64 * k) → leb from (64 * k + j) && ltb (64 * k + j) end ≡ false
      none j l (inl p) = ap (λ (t : Bool). t && ltb (64 * k + j) end) (lt-leb from (64 * k + j) (omega arith))
      none j l (inr p) = ap (λ (t : Bool). leb from (64 * k + j) && t) (le-ltb (64 * k + j) end (omega arith)) ∙ and-false (leb from (64 * k + j))

  inside : (k : ℕ) → from ≤ 64 * k → 64 * k + 64 ≤ end → choose v all_ones 0 ≡ word k
  inside k p q =
      word_is k (choose v all_ones 0) (small v)
      (λ j l.
      each v j l
      ∙ ap₂ (λ (s t : Bool). choose (s && t) v (bit (get_or ws k 0) j))
      (sym (le-leb from (64 * k + j) (omega arith))) (sym (lt-ltb (64 * k + j) end (omega arith))))
    where
      small : (t : Bool) → choose t all_ones 0 < 2 ^ 64
      small true = omega arith
      small false = omega arith

      each : (t : Bool) (j : ℕ) → j < 64 → bit (choose t all_ones 0) j ≡ t
      each true j l = bit_ones 64 j ∙ lt-ltb j 64 l
      each false j l = bit-zero j

  pub region_is : (w1 w2 w3 : List ℕ)
      → w1 ≡ set ws (from / 64) (filled_places (get_or ws (from / 64) 0) (places_in from end (from / 64)) v)
      → w2 ≡ filled_words (from / 64 + 1) (end / 64) (choose v all_ones 0) w1
      → w3 ≡ set w2 (end / 64) (filled_places (get_or w2 (end / 64) 0) (places_in from end (end / 64)) v) → w3 ≡ filled from end v ws
  unfolding filled words_of word after
  region_is w1 w2 w3 e1 e2 e3 = tab_is (length ws) (word_of after) w3 (long3 ∙ long2 ∙ long1) at
    where
      first : ℕ
      first = from / 64

      last : ℕ
      last = end / 64

      v1 : ℕ
      v1 = filled_places (get_or ws first 0) (places_in from end first) v

      v3 : ℕ
      v3 = filled_places (get_or w2 last 0) (places_in from end last) v

      long1 : length w1 ≡ length ws
      long1 = ap length e1 ∙ length-set ws first v1

      long2 : length w2 ≡ length w1
      long2 = ap length e2 ∙ length-filled_words (first + 1) last (choose v all_ones 0) w1

      long3 : length w3 ≡ length w2
      long3 = ap length e3 ∙ length-set w2 last v3

      one_here : (k : ℕ) → k < length ws → k ≡ first → get_or w1 k 0 ≡ v1
      one_here k h e = ap (λ (y : List ℕ). get_or y k 0) e1 ∙ get_d_set ws first k v1 (omega arith) e

      one_other : (k : ℕ) → (k ≡ first → ⊥) → get_or w1 k 0 ≡ get_or ws k 0
      one_other k n = ap (λ (y : List ℕ). get_or y k 0) e1 ∙ get_or-set_other ws first k v1 0 n

      two_above : (k : ℕ) → last ≤ k → get_or w2 k 0 ≡ get_or w1 k 0
      two_above k h = ap (λ (y : List ℕ). get_or y k 0) e2 ∙ filled_above (first + 1) last (choose v all_ones 0) w1 k h

      two_below : (k : ℕ) → k < first + 1 → get_or w2 k 0 ≡ get_or w1 k 0
      two_below k h = ap (λ (y : List ℕ). get_or y k 0) e2 ∙ filled_below (first + 1) last (choose v all_ones 0) w1 k h

      two_in : (k : ℕ) → k < length ws → first + 1 ≤ k → k < last → get_or w2 k 0 ≡ choose v all_ones 0
      two_in k h p q = ap (λ (y : List ℕ). get_or y k 0) e2 ∙ filled_in (first + 1) last (choose v all_ones 0) w1 k (omega (arith, long1)) p q

      at_last : (k : ℕ) → k < length ws → k ≡ last → v3 ≡ word_of after k
      at_last k h e =
          ap (λ (m : ℕ). filled_places (get_or w2 m 0) (places_in from end m) v) (sym e)
          ∙ by_eq k first
          (λ q. again k (get_or w2 k 0) (two_above k (omega arith) ∙ one_here k h q ∙ ap (λ (m : ℕ). filled_places (get_or ws m 0) (places_in from end m) v) (sym q)))
          (λ q. edge k (get_or w2 k 0) (two_above k (omega arith) ∙ one_other k q))

      before_last : (k : ℕ) → k < length ws → (k ≡ last → ⊥) → get_or w2 k 0 ≡ word_of after k
      before_last k h n =
          by_lt k (first + 1)
          (λ p. two_below k p ∙ by_eq k first
          (λ q. one_here k h q ∙ ap (λ (m : ℕ). filled_places (get_or ws m 0) (places_in from end m) v) (sym q) ∙ edge k (get_or ws k 0) refl)
          (λ q. one_other k q ∙ outside k (inl (omega arith))))
          (λ p. by_lt k last
          (λ q. two_in k h p q ∙ inside k (omega arith) (omega arith))
          (λ q. two_above k q ∙ one_other k (omega arith) ∙ outside k (inr (omega arith))))

      at : (k : ℕ) → k < length ws → get_or w3 k 0 ≡ word_of after k
      at k h =
          ap (λ (y : List ℕ). get_or y k 0) e3
          ∙ by_eq k last
          (λ e. get_d_set w2 last k v3 (omega (arith, long1, long2)) e ∙ at_last k h e)
          (λ e. get_or-set_other w2 last k v3 0 e ∙ before_last k h e)

  -- by masks and a fill that were worked out before
  pub region_by : (w1 w2 w3 : List ℕ) (m1 m3 x : ℕ) → m1 ≡ places_in from end (from / 64) → x ≡ choose v all_ones 0 → m3 ≡ places_in from end (end / 64)
      → w1 ≡ set ws (from / 64) (filled_places (get_or ws (from / 64) 0) m1 v)
      → w2 ≡ filled_words (from / 64 + 1) (end / 64) x w1
      → w3 ≡ set w2 (end / 64) (filled_places (get_or w2 (end / 64) 0) m3 v) → w3 ≡ filled from end v ws
  region_by w1 w2 w3 m1 m3 x p q r e1 e2 e3 =
      region_is w1 w2 w3
      (e1 ∙ ap (λ (m : ℕ). set ws (from / 64) (filled_places (get_or ws (from / 64) 0) m v)) p)
      (e2 ∙ ap (λ (y : ℕ). filled_words (from / 64 + 1) (end / 64) y w1) q)
      (e3 ∙ ap (λ (m : ℕ). set w2 (end / 64) (filled_places (get_or w2 (end / 64) 0) m v)) r)
