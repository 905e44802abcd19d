-- Members counted in a range, in parts of words.
use mathlib.Core.Path.{◌≡◌, refl, sym, ap, ap₂, ◌∙◌}
use mathlib.Core.Bool.{Bool, false, ◌&&◌}
use mathlib.Core.List.{List}
use Prim.Native.Nat.{ℕ, ◌+◌, ◌-◌, ◌*◌, ◌/◌, ◌%◌, ◌^◌, ◌≤◌, ◌<◌, min}
use native.Mathlib.Omega.{arith}
use lib.ListN.{length, get_or, take, drop, length-drop}
use lib.Seq.{length-take-le, get_or-take, get_or-drop}
use lib.Bits.{bit_and}
use lib.Dec.{ltb}
use borrow.Author.Tests.{lt-ltb, le-ltb}
use Rattle.word.specs.Sets.{count_below}
use Rattle.word.specs.Places.{bit, member}
use Rattle.word.specs.Words.{low_mask}
use Rattle.word.proofs.Cases.{by_lt, and-keep, and-false}
use Rattle.word.proofs.Places.{bit-and, bit-shr}
use Rattle.word.proofs.Words.{bit-low_mask}
use Rattle.word.proofs.Sets.{count-le, count_ext, count_add, count_none}
use Rattle.word.proofs.Lists.{member-at}
use Rattle.arch.specs.Scans.{count_set}
use Rattle.arch.proofs.Promises.{count_is_whole}
use Rattle.storage.specs.Stores.{view, held, size}
use Rattle.storage.specs.Guards.{Passed}
use Rattle.storage.specs.declared.Bitmap.{Bitmap}
use Rattle.storage.proofs.Views.{view-count, view-part, view_out}
use Rattle.storage.proofs.Sizes.{size-counted}
use Rattle.bitwise.specs.Bitwise.{clear_size, count_region, rank_of}

pub clear_size_lem : (ws : List ℕ) (b : Bitmap) (c : ℕ) → Passed ws b → c ≡ count_set (take b.count ws) → 64 * b.count - c ≡ clear_size (held ws b)
unfolding clear_size
clear_size_lem ws b c p e = ap₂ (λ (m k : ℕ). 64 * m - k) (sym (view-count ws b.count)) (e ∙ size-counted ws b p)

pub counted-le : (ws : List ℕ) (b : Bitmap) (c : ℕ) → Passed ws b → c ≡ count_set (take b.count ws) → c ≤ 64 * b.count
unfolding size
counted-le ws b c p e =
    omega (arith, e ∙ size-counted ws b p, count-le (held ws b).members (64 * (held ws b).count), view-count ws b.count)

-- ---- a range of a set, cut in two

-- the members from a on, below e
abbrev pub between : (ℕ → Bool) → ℕ → ℕ → ℕ
between s a e = count_below (λ j. s (a + j)) (e - a)

pub between_cut : (s : ℕ → Bool) (a m e : ℕ) → a ≤ m → m ≤ e → between s a e ≡ between s a m + between s m e
between_cut s a m e p q =
    ap (count_below (λ j. s (a + j))) (omega arith)
    ∙ count_add (λ j. s (a + j)) (m - a) (e - m)
    ∙ ap (λ (x : ℕ). between s a m + x) (count_ext (λ j. s (a + (m - a + j))) (λ j. s (m + j)) (e - m) (λ j l. ap s (omega arith)))

pub between_none : (s : ℕ → Bool) (a e : ℕ) → e ≤ a → 0 ≡ between s a e
unfolding count_below
between_none s a e h = let z : 0 ≡ e - a = omega arith in ap (count_below (λ j. s (a + j))) z

-- ---- places of one word

-- a mask of the low d places counts d places
mask_count : (s : ℕ → Bool) (d w : ℕ) → d ≤ w → count_below (λ j. s j && ltb j d) w ≡ count_below s d
mask_count s d w h =
    ap (count_below (λ j. s j && ltb j d)) (omega arith)
    ∙ count_add (λ j. s j && ltb j d) d (w - d)
    ∙ ap₂ (λ (x y : ℕ). x + y)
    (count_ext (λ j. s j && ltb j d) s d (λ j l. ap (λ (t : Bool). s j && t) (lt-ltb j d l) ∙ and-keep (s j)))
    (count_none (λ j. s (d + j) && ltb (d + j) d) (w - d) (λ j l. ap (λ (t : Bool). s (d + j) && t) (le-ltb (d + j) d (omega arith)) ∙ and-false (s (d + j))))
    ∙ omega arith

pub places_count : (x from end m c : ℕ) → from ≤ end → end ≤ 64 → m ≡ low_mask 64 (end - from) → c ≡ count_below (bit (bit_and (x / 2 ^ from) m)) 64
    → c ≡ count_below (λ j. bit x (from + j)) (end - from)
places_count x from end m c p q em ec =
    ec
    ∙ count_ext (bit (bit_and (x / 2 ^ from) m)) (λ j. bit x (from + j) && ltb j (end - from)) 64
    (λ j l. bit-and (x / 2 ^ from) m j ∙ ap₂ (λ (s t : Bool). s && t) (bit-shr x from j) (ap (λ (y : ℕ). bit y j) em ∙ bit-low_mask 64 (end - from) j l))
    ∙ mask_count (λ j. bit x (from + j)) (end - from) 64 (omega arith)

-- ---- ranges of the words

-- within word k
pub in_word : (ws : List ℕ) (k from end : ℕ) → from ≤ end → end ≤ 64 → count_below (λ j. bit (get_or ws k 0) (from + j)) (end - from) ≡ between (member ws) (64 * k + from) (64 * k + end)
in_word ws k from end p q =
    count_ext (λ j. bit (get_or ws k 0) (from + j)) (λ j. member ws (64 * k + from + j)) (end - from)
    (λ j l. sym (member-at ws k (from + j) (omega arith)) ∙ ap (member ws) (omega arith))
    ∙ ap (count_below (λ j. member ws (64 * k + from + j))) (omega arith)

-- whole words from a on, below e
part-member : (ws : List ℕ) (a e j : ℕ) → e ≤ length ws → j < 64 * (e - a) → member (take (e - a) (drop a ws)) j ≡ member ws (64 * a + j)
unfolding member
part-member ws a e j h l =
    ap₂ bit
    (get_or-take (e - a) (drop a ws) (j / 64) 0 (omega arith) ∙ get_or-drop a ws (j / 64) 0 ∙ ap (λ (m : ℕ). get_or ws m 0) (omega arith))
    (omega arith)

pub whole_words : (ws : List ℕ) (a e c : ℕ) → a ≤ e → e ≤ length ws → length ws < 2 ^ 58 → c ≡ count_set (take (e - a) (drop a ws))
    → c ≡ between (member ws) (64 * a) (64 * e)
whole_words ws a e c p q h ec =
    let n : length (take (e - a) (drop a ws)) ≡ e - a = length-take-le (e - a) (drop a ws) (omega (arith, length-drop a ws)) in
    ec
    ∙ count_is_whole (take (e - a) (drop a ws)) (omega arith)
    ∙ ap (λ (m : ℕ). count_below (member (take (e - a) (drop a ws))) (64 * m)) n
    ∙ count_ext (member (take (e - a) (drop a ws))) (λ j. member ws (64 * a + j)) (64 * (e - a)) (λ j l. part-member ws a e j q l)
    ∙ ap (count_below (λ j. member ws (64 * a + j))) (omega arith)

-- ---- a range of bits, by its edge words and the words between

module _ (ws : List ℕ) (i end : ℕ) (up : i ≤ end) where
  move : (a b e f : ℕ) → a ≡ b → e ≡ f → between (member ws) a e ≡ between (member ws) b f
  move a b e f p q = ap₂ (between (member ws)) p q

  pub range-one : (c : ℕ) → i / 64 ≡ end / 64 → c ≡ count_below (λ j. bit (get_or ws (i / 64) 0) (i % 64 + j)) (end % 64 - i % 64) → c ≡ between (member ws) i end
  range-one c e ec =
      ec ∙ in_word ws (i / 64) (i % 64) (end % 64) (omega arith) (omega arith)
      ∙ move (64 * (i / 64) + i % 64) i (64 * (i / 64) + end % 64) end (omega arith) (omega arith)

  range_head : (c : ℕ) → c ≡ count_below (λ j. bit (get_or ws (i / 64) 0) (i % 64 + j)) (64 - i % 64) → c ≡ between (member ws) i (64 * (i / 64 + 1))
  range_head c ec =
      ec ∙ in_word ws (i / 64) (i % 64) 64 (omega arith) (omega arith)
      ∙ move (64 * (i / 64) + i % 64) i (64 * (i / 64) + 64) (64 * (i / 64 + 1)) (omega arith) (omega arith)

  range_tail : (c : ℕ) → c ≡ count_below (λ j. bit (get_or ws (end / 64) 0) (0 + j)) (end % 64 - 0) → c ≡ between (member ws) (64 * (end / 64)) end
  range_tail c ec =
      ec ∙ in_word ws (end / 64) 0 (end % 64) (omega arith) (omega arith)
      ∙ move (64 * (end / 64) + 0) (64 * (end / 64)) (64 * (end / 64) + end % 64) end (omega arith) (omega arith)

  module _ (inside : end ≤ 64 * length ws) (short : length ws < 2 ^ 58) (apart : i / 64 ≡ end / 64 → ⊥) (head body : ℕ)
      (eh : head ≡ count_below (λ j. bit (get_or ws (i / 64) 0) (i % 64 + j)) (64 - i % 64))
      (eb : body ≡ count_set (take (end / 64 - (i / 64 + 1)) (drop (i / 64 + 1) ws))) where
    between_le : (a e : ℕ) → between (member ws) a e ≤ e - a
    between_le a e = count-le (λ j. member ws (a + j)) (e - a)

    whole : body ≡ between (member ws) (64 * (i / 64 + 1)) (64 * (end / 64))
    whole = whole_words ws (i / 64 + 1) (end / 64) body (omega arith) (omega arith) short eb

    pub range-most : head + body ≡ between (member ws) i (64 * (end / 64))
    range-most =
        ap₂ (λ (x y : ℕ). x + y) (range_head head eh) whole
        ∙ sym (between_cut (member ws) i (64 * (i / 64 + 1)) (64 * (end / 64)) (omega arith) (omega arith))

    pub most-le : head + body ≤ 64 * length ws
    most-le = omega (arith, range-most, between_le i (64 * (end / 64)))

    pub range_even : end % 64 ≡ 0 → head + body ≡ between (member ws) i end
    range_even z = range-most ∙ move i i (64 * (end / 64)) end refl (omega arith)

    pub range_odd : (tail : ℕ) → tail ≡ count_below (λ j. bit (get_or ws (end / 64) 0) (0 + j)) (end % 64 - 0) → head + body + tail ≡ between (member ws) i end
    range_odd tail et =
        ap₂ (λ (x y : ℕ). x + y) range-most (range_tail tail et)
        ∙ sym (between_cut (member ws) i (64 * (end / 64)) end (omega arith) (omega arith))

    pub odd_le : (tail : ℕ) → tail ≡ count_below (λ j. bit (get_or ws (end / 64) 0) (0 + j)) (end % 64 - 0) → head + body + tail ≤ 64 * length ws
    odd_le tail et = omega (arith, range_odd tail et, between_le i end)

-- ---- past the length nothing is counted

pub count_clip : (s : ℕ → Bool) (len k : ℕ) → ((i : ℕ) → len ≤ i → s i ≡ false) → count_below s k ≡ count_below s (min k len)
count_clip s len k h =
    by_lt k len
    (λ l. ap (count_below s) (omega arith))
    (λ l.
    ap (count_below s) (up l) ∙ count_add s len (k - len)
    ∙ ap (λ (x : ℕ). count_below s len + x) (count_none (λ j. s (len + j)) (k - len) (λ j m. h (len + j) (omega arith)))
    ∙ zero_more (count_below s len) ∙ ap (count_below s) (down l))
  where
    up : len ≤ k → k ≡ len + (k - len)
    up l = omega arith

    down : len ≤ k → len ≡ min k len
    down l = omega arith

    zero_more : (x : ℕ) → x + 0 ≡ x
    zero_more x = omega arith

pub region-counted : (ws : List ℕ) (n i k e c : ℕ) → n ≤ length ws → i < 64 * n → e ≡ i + min k (64 * n - i) → c ≡ between (member (take n ws)) i e
    → c ≡ count_region i k (view ws n)
unfolding count_region
region-counted ws n i k e c h l ee ec =
    ec
    ∙ ap (count_below (λ j. member (take n ws) (i + j))) (width ee)
    ∙ count_ext (λ j. member (take n ws) (i + j)) (λ j. (view ws n).members (i + j)) (min k (64 * n - i)) (λ j m. sym (view-part ws n (i + j) h))
    ∙ sym (count_clip (λ j. (view ws n).members (i + j)) (64 * n - i) k (λ j m. view_out ws n (i + j) (omega arith)))
  where
    width : e ≡ i + min k (64 * n - i) → e - i ≡ min k (64 * n - i)
    width q = omega arith

pub region_none : (ws : List ℕ) (n i k : ℕ) → 64 * n ≤ i → 0 ≡ count_region i k (view ws n)
unfolding count_region
region_none ws n i k h = sym (count_none (λ j. (view ws n).members (i + j)) k (λ j l. view_out ws n (i + j) (omega arith)))

pub rank-counted : (ws : List ℕ) (n i e c : ℕ) → n ≤ length ws → e ≡ min i (64 * n) → c ≡ between (member (take n ws)) 0 e → c ≡ rank_of i (view ws n)
unfolding rank_of
rank-counted ws n i e c h ee ec =
    ec
    ∙ ap (count_below (λ j. member (take n ws) (0 + j))) (omega arith)
    ∙ count_ext (λ j. member (take n ws) (0 + j)) (view ws n).members (min i (64 * n)) (λ j m. ap (member (take n ws)) (zero-plus j) ∙ sym (view-part ws n j h))
    ∙ sym (count_clip (view ws n).members (64 * n) i (λ j m. view_out ws n j m))
  where
    zero-plus : (j : ℕ) → 0 + j ≡ j
    zero-plus j = omega arith
