-- The words from a place's word on replaced, with the bits below the place kept.
use mathlib.Core.Path.{◌≡◌, refl, sym, ap, ap₂, ◌∙◌, subst}
use mathlib.Core.Bool.{Bool, false, not, ◌&&◌}
use mathlib.Core.List.{List, ◌++◌}
use Prim.Native.Nat.{ℕ, ◌+◌, ◌-◌, ◌*◌, ◌/◌, ◌%◌, ◌^◌, ◌≤◌, ◌<◌}
use native.Mathlib.Omega.{arith}
use lib.ListN.{length, get_or, set, take, drop, length-set, length-append, length-drop, length-take, get_or-append}
use lib.Seq.{get_or-append-add, get_or-drop, get_or-take, get_or-set_other, length-take-le}
use lib.Bits.{bit_and, bit_or, and_lt}
use lib.Pow.{ones_sub-lt}
use lib.Dec.{ltb}
use borrow.Author.Tests.{lt-ltb, le-ltb, le-leb, lt-leb}
use Rattle.word.specs.Sets.{choose}
use Rattle.word.specs.Places.{bit, word_of, member, words_of}
use Rattle.word.specs.Words.{low_mask}
use Rattle.word.proofs.Cases.{by_lt, by_eq, and-false, and-keep}
use Rattle.word.proofs.Places.{bit-and, bit_not, bit-pack, pack-lt}
use Rattle.word.proofs.Words.{bit-low_mask, low_mask-lt}
use Rattle.word.proofs.Lists.{Fit, at_place, past, length_words, word_at_lem, words_is, member-at}
use Rattle.word.proofs.Sweep.{get_d_set}
use Rattle.shifts.specs.Shifts.{moved_up, moved_down}
use Rattle.shifts.proofs.Cases.{moved_up_lem, moved_in}
use Rattle.slice.specs.Kernels.{overlaid}
use Rattle.slice.proofs.Stricts.{overlay_is}
use Rattle.gap.specs.Kernels.{gap_opened, gap_closed}

-- ---- the words from word a on are those of a set

module _ (ws part : List ℕ) (a : ℕ) (h : ℕ → Bool) (l : a < length ws) (ep : part ≡ words_of h (length (take (length ws - a) (drop a ws)))) where
  abbrev joined : List ℕ
  joined = take a ws ++ (part ++ drop (length ws - a) (drop a ws))

  front_long : length (take a ws) ≡ a
  front_long = length-take-le a ws (omega arith)

  is : part ≡ words_of h (length ws - a)
  is = ep ∙ ap (words_of h) (length-take-le (length ws - a) (drop a ws) (omega (arith, length-drop a ws)))

  part_long : length part ≡ length ws - a
  part_long = ap length is ∙ length_words h (length ws - a)

  joined_long : length joined ≡ length ws
  joined_long =
      length-append (take a ws) (part ++ drop (length ws - a) (drop a ws))
      ∙ omega (arith, front_long, part_long, length-append part (drop (length ws - a) (drop a ws)), length-drop (length ws - a) (drop a ws), length-drop a ws)

  joined_below : (k : ℕ) → k < a → get_or joined k 0 ≡ get_or ws k 0
  joined_below k q = get_or-append (take a ws) (part ++ drop (length ws - a) (drop a ws)) 0 k (omega (arith, front_long)) ∙ get_or-take a ws k 0 q

  joined_at : (k : ℕ) → a ≤ k → k < length ws → get_or joined k 0 ≡ word_of h (k - a)
  joined_at k p q =
      ap (λ (m : ℕ). get_or joined m 0) (omega (arith, front_long))
      ∙ get_or-append-add (take a ws) (part ++ drop (length ws - a) (drop a ws)) (k - a) 0
      ∙ get_or-append part (drop (length ws - a) (drop a ws)) 0 (k - a) (omega (arith, part_long))
      ∙ ap (λ (y : List ℕ). get_or y (k - a) 0) is ∙ word_at_lem h (length ws - a) (k - a) (omega arith)

-- ---- one word with its low bits from another

module _ (x low mask r : ℕ) (em : mask ≡ low_mask 64 r) (hx : x < 2 ^ 64) (hl : low < 2 ^ 64) where
  abbrev mixed : ℕ
  mixed = bit_or (bit_and x ((2 ^ 64 - 1) - mask)) (bit_and low mask)

  mixed_is : mixed ≡ overlaid x low (low_mask 64 r)
  mixed_is = ap (λ (m : ℕ). bit_or (bit_and x ((2 ^ 64 - 1) - m)) (bit_and low m)) em ∙ overlay_is x low (low_mask 64 r) hx hl (low_mask-lt 64 r)

  mixed_lt : mixed < 2 ^ 64
  unfolding overlaid
  mixed_lt = subst (λ (y : ℕ). y < 2 ^ 64) (sym mixed_is) (pack-lt 64 (λ j. choose (bit (low_mask 64 r) j) (bit low j) (bit x j)))

  mixed_bit : (j : ℕ) → j < 64 → bit mixed j ≡ choose (ltb j r) (bit low j) (bit x j)
  unfolding overlaid
  mixed_bit j l =
      ap (λ (y : ℕ). bit y j) mixed_is ∙ bit-pack 64 (λ j. choose (bit (low_mask 64 r) j) (bit low j) (bit x j)) j l
      ∙ ap (λ (t : Bool). choose t (bit low j) (bit x j)) (bit-low_mask 64 r j l)

-- ---- the two together: s is kept below p and is h from p on

module _ (us part : List ℕ) (p mask low : ℕ) (h s : ℕ → Bool) (f : Fit us) (l : p / 64 < length us)
    (ep : part ≡ words_of h (length (take (length us - p / 64) (drop (p / 64) us)))) (em : mask ≡ low_mask 64 (p % 64)) (hl : low < 2 ^ 64)
    (front : (k j : ℕ) → k < p / 64 → j < 64 → bit (get_or us k 0) j ≡ s (64 * k + j))
    (kept : (j : ℕ) → j < p % 64 → bit low j ≡ s (64 * (p / 64) + j)) (moved : (i : ℕ) → p ≤ i → h (i - 64 * (p / 64)) ≡ s i) where
  z : List ℕ
  z = take (p / 64) us ++ (part ++ drop (length us - p / 64) (drop (p / 64) us))

  at-bit : (k j : ℕ) → p / 64 ≤ k → k < length us → j < 64 → p ≤ 64 * k + j → bit (get_or z k 0) j ≡ s (64 * k + j)
  unfolding word_of z
  at-bit k j q m g b =
      ap (λ (x : ℕ). bit x j) (joined_at us part (p / 64) h l ep k q m) ∙ bit-pack 64 (λ j. h (64 * (k - p / 64) + j)) j g
      ∙ ap h (omega arith) ∙ moved (64 * k + j) b

  fits : (k : ℕ) → k < length us → get_or z k 0 < 2 ^ 64
  unfolding word_of z
  fits k m =
      by_lt k (p / 64)
      (λ q. subst (λ (x : ℕ). x < 2 ^ 64) (sym (joined_below us part (p / 64) h l ep k q)) (f k))
      (λ q. subst (λ (x : ℕ). x < 2 ^ 64) (sym (joined_at us part (p / 64) h l ep k q m)) (pack-lt 64 (λ j. h (64 * (k - p / 64) + j))))

  v : ℕ
  v = bit_or (bit_and (get_or z (p / 64) 0) ((2 ^ 64 - 1) - mask)) (bit_and low mask)

  pub tail_is : set (take (p / 64) us ++ (part ++ drop (length us - p / 64) (drop (p / 64) us))) (p / 64)
      (bit_or (bit_and (get_or (take (p / 64) us ++ (part ++ drop (length us - p / 64) (drop (p / 64) us))) (p / 64) 0) ((2 ^ 64 - 1) - mask)) (bit_and low mask))
      ≡ words_of s (length us)
  unfolding z v
  tail_is =
      words_is (length us) s (set z (p / 64) v) (length-set z (p / 64) v ∙ long)
      (λ k m. by_eq k (p / 64)
      (λ e. subst (λ (x : ℕ). x < 2 ^ 64) (sym (here k e)) (mixed_lt (get_or z (p / 64) 0) low mask (p % 64) em (fits (p / 64) l) hl))
      (λ n. subst (λ (x : ℕ). x < 2 ^ 64) (sym (other k n)) (fits k m)))
      (λ k j m g. by_eq k (p / 64)
      (λ e. ap (λ (x : ℕ). bit x j) (here k e) ∙ in_word j g ∙ ap (λ (m : ℕ). s (64 * m + j)) (sym e))
      (λ n. ap (λ (x : ℕ). bit x j) (other k n)
      ∙ by_lt k (p / 64)
      (λ q. ap (λ (x : ℕ). bit x j) (joined_below us part (p / 64) h l ep k q) ∙ front k j q g)
      (λ q. at-bit k j q m g (omega arith))))
    where
      long : length z ≡ length us
      long = joined_long us part (p / 64) h l ep

      here : (k : ℕ) → k ≡ p / 64 → get_or (set z (p / 64) v) k 0 ≡ v
      here k e = get_d_set z (p / 64) k v (omega (arith, long)) e

      other : (k : ℕ) → (k ≡ p / 64 → ⊥) → get_or (set z (p / 64) v) k 0 ≡ get_or z k 0
      other k n = get_or-set_other z (p / 64) k v 0 n

      in_word : (j : ℕ) → j < 64 → bit v j ≡ s (64 * (p / 64) + j)
      in_word j g =
          mixed_bit (get_or z (p / 64) 0) low mask (p % 64) em (fits (p / 64) l) hl j g
          ∙ by_lt j (p % 64)
          (λ q. ap (λ (t : Bool). choose t (bit low j) (bit (get_or z (p / 64) 0) j)) (lt-ltb j (p % 64) q) ∙ kept j q)
          (λ q. ap (λ (t : Bool). choose t (bit low j) (bit (get_or z (p / 64) 0) j)) (le-ltb j (p % 64) q) ∙ at-bit (p / 64) j (omega arith) l g (omega arith))

-- ---- the sets

module _ (p k : ℕ) (s : ℕ → Bool) (i : ℕ) where
  pub opened_below : i < p → gap_opened p k s i ≡ s i
  unfolding gap_opened
  opened_below h = rw (lt-ltb i p h)

  pub opened_gap : p ≤ i → i < p + k → gap_opened p k s i ≡ false
  unfolding gap_opened
  opened_gap h l = rw (le-ltb i p h, lt-leb (p + k) i l)

  pub opened_from : p + k ≤ i → gap_opened p k s i ≡ s (i - k)
  unfolding gap_opened
  opened_from h = let l : p ≤ i = omega arith in rw (le-ltb i p l, le-leb (p + k) i h)

  pub closed_below : i < p → gap_closed p k s i ≡ s i
  unfolding gap_closed
  closed_below h = rw (lt-ltb i p h)

  pub closed_from : p ≤ i → gap_closed p k s i ≡ s (i + k)
  unfolding gap_closed
  closed_from h = rw (le-ltb i p h)

-- ---- the calls on words

-- a set that is the words' own
own_words : (ws : List ℕ) (s : ℕ → Bool) → Fit ws → ((i : ℕ) → i < 64 * length ws → s i ≡ member ws i) → ws ≡ words_of s (length ws)
own_words ws s f e = words_is (length ws) s ws refl (λ k l. f k) (λ k j l m. sym (member-at ws k j m) ∙ sym (e (64 * k + j) (omega arith)))

member_tail : (ws : List ℕ) (a i : ℕ) → member (take (length ws - a) (drop a ws)) i ≡ member ws (64 * a + i)
unfolding member
member_tail ws a i =
    ap₂ (λ (x y : ℕ). bit x y)
    (by_lt (i / 64) (length ws - a)
    (λ l. get_or-take (length ws - a) (drop a ws) (i / 64) 0 l ∙ get_or-drop a ws (i / 64) 0)
    (λ l. past (take (length ws - a) (drop a ws)) (i / 64) (omega (arith, length-take (length ws - a) (drop a ws))) ∙ sym (past ws (a + i / 64) (omega arith)))
    ∙ ap (λ (x : ℕ). get_or ws x 0) (omega arith))
    (omega arith)

module _ (ws : List ℕ) (p k : ℕ) (f : Fit ws) where
  pub close_out : length ws ≤ p / 64 → ws ≡ words_of (gap_closed p k (member ws)) (length ws)
  close_out h = own_words ws (gap_closed p k (member ws)) f (λ i l. closed_below p k (member ws) i (omega arith))

  pub open_out : length ws ≤ p / 64 → ws ≡ words_of (gap_opened p k (member ws)) (length ws)
  open_out h = own_words ws (gap_opened p k (member ws)) f (λ i l. opened_below p k (member ws) i (omega arith))

  module _ (part : List ℕ) (mask : ℕ) (l : p / 64 < length ws) (em : mask ≡ low_mask 64 (p % 64)) where
    pub close_tail : part ≡ words_of (moved_down k (member (take (length ws - p / 64) (drop (p / 64) ws)))) (length (take (length ws - p / 64) (drop (p / 64) ws)))
        → set (take (p / 64) ws ++ (part ++ drop (length ws - p / 64) (drop (p / 64) ws))) (p / 64)
        (bit_or (bit_and (get_or (take (p / 64) ws ++ (part ++ drop (length ws - p / 64) (drop (p / 64) ws))) (p / 64) 0) ((2 ^ 64 - 1) - mask)) (bit_and (get_or ws (p / 64) 0) mask))
        ≡ words_of (gap_closed p k (member ws)) (length ws)
    unfolding moved_down
    close_tail ep =
        tail_is ws part p mask (get_or ws (p / 64) 0) (moved_down k (member (take (length ws - p / 64) (drop (p / 64) ws)))) (gap_closed p k (member ws)) f l ep em (f (p / 64))
        (λ m j a b. sym (member-at ws m j b) ∙ sym (closed_below p k (member ws) (64 * m + j) (omega arith)))
        (λ j a. sym (member-at ws (p / 64) j (omega arith)) ∙ sym (closed_below p k (member ws) (64 * (p / 64) + j) (omega arith)))
        (λ i a. member_tail ws (p / 64) (i - 64 * (p / 64) + k) ∙ ap (member ws) (omega arith) ∙ sym (closed_from p k (member ws) i a))

    -- the word of p without its low bits
    abbrev us : List ℕ
    us = set ws (p / 64) (bit_and (get_or ws (p / 64) 0) ((2 ^ 64 - 1) - mask))

    us_long : length us ≡ length ws
    us_long = length-set ws (p / 64) (bit_and (get_or ws (p / 64) 0) ((2 ^ 64 - 1) - mask))

    us_bit : (j : ℕ) → j < 64 → bit (get_or us (p / 64) 0) j ≡ bit (get_or ws (p / 64) 0) j && not (ltb j (p % 64))
    us_bit j m =
        ap (λ (x : ℕ). bit x j) (get_d_set ws (p / 64) (p / 64) (bit_and (get_or ws (p / 64) 0) ((2 ^ 64 - 1) - mask)) l refl)
        ∙ bit-and (get_or ws (p / 64) 0) ((2 ^ 64 - 1) - mask) j
        ∙ ap (λ (t : Bool). bit (get_or ws (p / 64) 0) j && t)
        (ap (λ (x : ℕ). bit ((2 ^ 64 - 1) - x) j) em ∙ bit_not (low_mask 64 (p % 64)) 64 j (low_mask-lt 64 (p % 64)) m ∙ ap not (bit-low_mask 64 (p % 64) j m))

    us_other : (m : ℕ) → (m ≡ p / 64 → ⊥) → get_or us m 0 ≡ get_or ws m 0
    us_other m n = get_or-set_other ws (p / 64) m (bit_and (get_or ws (p / 64) 0) ((2 ^ 64 - 1) - mask)) 0 n

    us_fit : Fit us
    us_fit m =
        by_eq m (p / 64)
        (λ e. subst (λ (x : ℕ). x < 2 ^ 64) (sym (get_d_set ws (p / 64) m (bit_and (get_or ws (p / 64) 0) ((2 ^ 64 - 1) - mask)) l e))
        (and_lt 64 (get_or ws (p / 64) 0) ((2 ^ 64 - 1) - mask) (f (p / 64)) (ones_sub-lt 64 mask)))
        (λ n. subst (λ (x : ℕ). x < 2 ^ 64) (sym (us_other m n)) (f m))

    us_low : (q : ℕ) → 64 * (p / 64) ≤ q → q < p → member us q ≡ false
    us_low q a b =
        ap (member us) (omega arith) ∙ member-at us (p / 64) (q % 64) (omega arith) ∙ us_bit (q % 64) (omega arith)
        ∙ ap (λ (t : Bool). bit (get_or ws (p / 64) 0) (q % 64) && not t) (lt-ltb (q % 64) (p % 64) (omega arith)) ∙ and-false (bit (get_or ws (p / 64) 0) (q % 64))

    us_high : (q : ℕ) → p ≤ q → member us q ≡ member ws q
    us_high q a =
        ap (member us) (sym (at_place q)) ∙ member-at us (q / 64) (q % 64) (omega arith)
        ∙ by_eq (q / 64) (p / 64)
        (λ e.
        ap (λ (m : ℕ). bit (get_or us m 0) (q % 64)) e ∙ us_bit (q % 64) (omega arith)
        ∙ ap (λ (t : Bool). bit (get_or ws (p / 64) 0) (q % 64) && not t) (le-ltb (q % 64) (p % 64) (omega arith)) ∙ and-keep (bit (get_or ws (p / 64) 0) (q % 64))
        ∙ ap (λ (m : ℕ). bit (get_or ws m 0) (q % 64)) (sym e))
        (λ n. ap (λ (x : ℕ). bit x (q % 64)) (us_other (q / 64) n))
        ∙ sym (member-at ws (q / 64) (q % 64) (omega arith)) ∙ ap (member ws) (at_place q)

    pub open_tail : part ≡ words_of (moved_up k (member (take (length us - p / 64) (drop (p / 64) us)))) (length (take (length us - p / 64) (drop (p / 64) us)))
        → set (take (p / 64) us ++ (part ++ drop (length us - p / 64) (drop (p / 64) us))) (p / 64)
        (bit_or (bit_and (get_or (take (p / 64) us ++ (part ++ drop (length us - p / 64) (drop (p / 64) us))) (p / 64) 0) ((2 ^ 64 - 1) - mask)) (bit_and (get_or ws (p / 64) 0) mask))
        ≡ words_of (gap_opened p k (member ws)) (length ws)
    open_tail ep =
        tail_is us part p mask (get_or ws (p / 64) 0) (moved_up k (member (take (length us - p / 64) (drop (p / 64) us)))) (gap_opened p k (member ws)) us_fit (omega (arith, us_long)) ep em (f (p / 64))
        (λ m j a b. ap (λ (x : ℕ). bit x j) (us_other m (omega arith)) ∙ sym (member-at ws m j b) ∙ sym (opened_below p k (member ws) (64 * m + j) (omega arith)))
        (λ j a. sym (member-at ws (p / 64) j (omega arith)) ∙ sym (opened_below p k (member ws) (64 * (p / 64) + j) (omega arith)))
        moved
        ∙ ap (words_of (gap_opened p k (member ws))) us_long
      where
        moved : (i : ℕ) → p ≤ i → moved_up k (member (take (length us - p / 64) (drop (p / 64) us))) (i - 64 * (p / 64)) ≡ gap_opened p k (member ws) i
        moved i a =
            by_lt (i - 64 * (p / 64)) k
            (λ h. moved_in k (member (take (length us - p / 64) (drop (p / 64) us))) (i - 64 * (p / 64)) h ∙ sym (opened_gap p k (member ws) i a (omega arith)))
            (λ h.
            moved_up_lem k (member (take (length us - p / 64) (drop (p / 64) us))) (i - 64 * (p / 64)) h ∙ member_tail us (p / 64) (i - 64 * (p / 64) - k) ∙ ap (member us) (omega arith)
            ∙ by_lt i (p + k)
            (λ m. us_low (i - k) (omega arith) (omega arith) ∙ sym (opened_gap p k (member ws) i a m))
            (λ m. us_high (i - k) (omega arith) ∙ sym (opened_from p k (member ws) i m)))
