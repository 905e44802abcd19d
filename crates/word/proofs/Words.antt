-- What the functions of word.rs make of a word, over the width.
use Rattle.std.proofs.Common.{◌≡◌, ℕ, zero, suc, ◌+◌, ◌-◌, ◌*◌, ◌/◌, ◌%◌, ◌^◌, ◌<◌, ◌≤◌, Bool, true, false, not, ◌&&◌, ◌||◌, eqb, ltb, leb, sym, refl, ap, ◌∙◌, subst, ap₂, lt_of_lt_of_le, mod-lt, mod-eq_of_lt, mul_assoc, one-mul, pow-suc, div-one, one-add, arith, pow_pos, pow_mono, pow-add, shr_lt, le-ltb, lt-ltb, eq-eqb, ne_eqb, le-leb}
use native.Mathlib.Nat.{div-eq_of_lt, mul-mod_left, mod_self}
use borrow.Author.Tests.{lt-leb}
use lib.Count.{ones, ones_cat, count_leading_zeros, leading_top, leading_of_zero, count_trailing_zeros, under}
use lib.Pow.{pow-lt, split, ones_lt, ones_sub-lt}
use lib.Bits.{bit_and, bit_or, and_lt, or_lt}
use Rattle.word.specs.Sets.{choose, val, count_below, least_from, top_below, Least}
use Rattle.word.specs.Places.{is_one, bit}
use Rattle.word.specs.Words.{low_mask, single, mirrored, without_least, funneled, pair_bit}
use Rattle.word.specs.Promises.{FromPlace}
use Rattle.word.proofs.Cases.{by_lt, by_eq, or-false, and-keep, and_same}
use Rattle.word.proofs.Places.{bit-and, bit-or, bit-zero, bit-shr, bit_past, bit-mod, bit_cat_low, bit_cat_high, bit-shl-mod, bit_ones, bit_not}
use Rattle.word.proofs.Places.{bit-suc, bits_ext, pack-lt, bit-pack, pack_is, bit-one, no_bits}
use Rattle.word.proofs.Sets.{count_ext, least, least_suc, least_ext, top_is}

-- ---- the language's counts

bit_0 : (x : ℕ) → bit x 0 ≡ is_one (x % 2)
unfolding bit
bit_0 x = ap (λ (z : ℕ). is_one (z % 2)) (div-one x)

one-digit : (d : ℕ) → d < 2 → ones d ≡ val (is_one (d % 2))
unfolding ones
one-digit zero h = refl
one-digit (suc zero) h = refl
one-digit (suc (suc d)) h = absurd (omega arith)

pub ones_count : (w x : ℕ) → x < 2 ^ w → ones x ≡ count_below (bit x) w
unfolding count_below ones bit
ones_count zero x h = sym (ap ones (lt-one h))
  where
    lt-one : x < 1 → 0 ≡ x
    lt-one l = omega arith
ones_count (suc w) x h =
    let d : ℕ = x / 2 ^ w in
    let r : ℕ = x % 2 ^ w in
    let hd : d < 2 = shr_lt 1 w (subst (λ (m : ℕ). x < 2 ^ m) (sym (one-add w)) h) in
    let hr : r < 2 ^ w = mod-lt x (pow_pos w) in
    let cut : ones x ≡ ones d + ones r = ap ones (sym (split x w)) ∙ ones_cat w d r hr in
    let low : ones r ≡ count_below (bit x) w = ones_count w r hr ∙ count_ext (bit r) (bit x) w (λ i l. bit-mod x w i l) in
    let top : ones d ≡ val (bit x w) = one-digit d hd in
    omega arith

pub trailing_least : (w x : ℕ) → count_trailing_zeros w x ≡ least_from (bit x) 0 w
unfolding count_trailing_zeros least_from
trailing_least zero x = refl
trailing_least (suc w) x =
    go
    (least_suc (bit x) 0 w
    ∙ ap suc (least_ext (λ j. bit x (suc j)) (bit (x / 2)) 0 w (λ q a b. bit-suc x q) ∙ sym (trailing_least w (x / 2))))
    (x % 2) refl
  where
    go : least_from (bit x) 1 w ≡ suc (count_trailing_zeros w (x / 2)) → (d : ℕ) → x % 2 ≡ d → under d (count_trailing_zeros w (x / 2)) ≡ choose (bit x 0) 0 (least_from (bit x) 1 w)
    go rest zero e = sym (ap (λ (t : Bool). choose t 0 (least_from (bit x) 1 w)) (bit_0 x ∙ ap is_one e) ∙ rest)
    go rest (suc d) e = sym (ap (λ (t : Bool). choose t 0 (least_from (bit x) 1 w)) (bit_0 x ∙ ap is_one e))

-- the digit at the length of a number
top_digit : (x j : ℕ) → 2 ^ j ≤ x → x < 2 ^ suc j → bit x j ≡ true
top_digit x j l h =
    let r : ℕ = x - 2 ^ j in
    let e : 1 * 2 ^ j + r ≡ x = omega arith in
    ap₂ bit (sym e) (sym (native.Mathlib.Nat.add-zero j))
    ∙ bit_cat_high 1 j r 0 (omega (arith, pow-suc 2 j)) ∙ bit_0 1

pub leading_from : (w x : ℕ) → x < 2 ^ w → count_leading_zeros w x ≡ w - top_below (bit x) w
leading_from w zero h =
    let e : top_below (bit 0) w ≡ 0 =
    top_is (bit 0) w 0 (record { within = omega arith; last = λ k q. absurd (omega arith); over = λ k a b. bit-zero k }) in
    omega (arith, leading_of_zero w)
leading_from w (suc x) h =
    let t = leading_top w (suc x) (omega arith) h in
    let e : top_below (bit (suc x)) w ≡ suc t.0 =
    top_is (bit (suc x)) w (suc t.0)
    (record {
      within = omega (arith, t.1);
      last = λ k q. ap (bit (suc x)) (omega arith) ∙ top_digit (suc x) t.0 t.2 t.3;
      over = λ k a b. bit_past (suc x) (suc t.0) k t.3 a;
    }) in
    omega (arith, t.1)

-- ---- masks

pub low_mask_lem : (w n : ℕ) → n ≤ w → (2 ^ w - 1) - ((2 ^ w - 1) * 2 ^ n % 2 ^ w) ≡ low_mask w n
unfolding low_mask
low_mask_lem w n h =
    pack_is w _ (λ i. ltb i n) (ones_sub-lt w _)
    (λ i l.
    bit_not ((2 ^ w - 1) * 2 ^ n % 2 ^ w) w i (mod-lt ((2 ^ w - 1) * 2 ^ n) (pow_pos w)) l
    ∙ ap not (bit-shl-mod (2 ^ w - 1) n w i l ∙ ap (λ (t : Bool). leb n i && t) (bit_ones w (i - n)))
    ∙ by_lt i n
    (λ p. ap (λ (t : Bool). not (t && ltb (i - n) w)) (lt-leb n i p) ∙ sym (lt-ltb i n p))
    (λ p. ap₂ (λ (t u : Bool). not (t && u)) (le-leb n i p) (lt-ltb (i - n) w (omega arith)) ∙ sym (le-ltb i n p)))

pub all_mask : (w n : ℕ) → w ≤ n → 2 ^ w - 1 ≡ low_mask w n
unfolding low_mask
all_mask w n h = pack_is w (2 ^ w - 1) (λ i. ltb i n) (ones_lt w) (λ i l. bit_ones w i ∙ lt-ltb i w l ∙ sym (lt-ltb i n (omega arith)))

pub single_is : (w r : ℕ) → 1 * 2 ^ r % 2 ^ w ≡ single w r
unfolding single
single_is w r = pack_is w (1 * 2 ^ r % 2 ^ w) (λ j. eqb j r) (mod-lt (1 * 2 ^ r) (pow_pos w)) (λ j l. bit-one r w j l)

pub bit-low_mask : (w n j : ℕ) → j < w → bit (low_mask w n) j ≡ ltb j n
unfolding low_mask
bit-low_mask w n j l = bit-pack w (λ i. ltb i n) j l

pub low_mask-lt : (w n : ℕ) → low_mask w n < 2 ^ w
unfolding low_mask
low_mask-lt w n = pack-lt w (λ i. ltb i n)

pub bit-single : (w i j : ℕ) → j < w → bit (single w i) j ≡ eqb j i
unfolding single
bit-single w i j l = bit-pack w (λ j. eqb j i) j l

pub single-lt : (w i : ℕ) → single w i < 2 ^ w
unfolding single
single-lt w i = pack-lt w (λ j. eqb j i)

-- ---- both words moved, and joined

pub down_out : (w x n : ℕ) → x < 2 ^ w → w ≤ n → 0 ≡ x / 2 ^ n
down_out w x n h l = sym (div-eq_of_lt (lt_of_lt_of_le h (pow_mono l)))

pub up_out : (w x n : ℕ) → w ≤ n → 0 ≡ x * 2 ^ n % 2 ^ w
up_out w x n l =
    let e : n - w + w ≡ n = omega arith in
    sym
    (ap (λ (k : ℕ). x * 2 ^ k % 2 ^ w) (sym e) ∙ ap (λ (y : ℕ). x * y % 2 ^ w) (pow-add 2 (n - w) w)
    ∙ ap (λ (y : ℕ). y % 2 ^ w) (sym (mul_assoc x (2 ^ (n - w)) (2 ^ w))) ∙ mul-mod_left (x * 2 ^ (n - w)) (2 ^ w))

pub funnel_is : (w lo hi down up a b : ℕ) → a < 2 ^ w → a ≡ lo / 2 ^ down → b ≡ hi * 2 ^ up % 2 ^ w → bit_or a b ≡ funneled w lo hi down up
unfolding funneled
funnel_is w lo hi down up a b ha ea eb =
    pack_is w (bit_or a b) (λ j. bit lo (down + j) || (leb up j && bit hi (j - up)))
    (or_lt w a b ha (subst (λ (y : ℕ). y < 2 ^ w) (sym eb) (mod-lt (hi * 2 ^ up) (pow_pos w))))
    (λ j l.
    bit-or a b j
    ∙ ap₂ (λ (p q : Bool). p || q) (ap (λ (y : ℕ). bit y j) ea ∙ bit-shr lo down j) (ap (λ (y : ℕ). bit y j) eb ∙ bit-shl-mod hi up w j l))

-- amounts that add up to the width take the pair's digits from a place on
pub from_place : (w lo hi down up : ℕ) → lo < 2 ^ w → down + up ≡ w → FromPlace w lo hi down (funneled w lo hi down up)
unfolding funneled pair_bit
from_place w lo hi down up h e = record {
  fits = pack-lt w (λ j. bit lo (down + j) || (leb up j && bit hi (j - up)));
  at = λ j l.
      bit-pack w (λ j. bit lo (down + j) || (leb up j && bit hi (j - up))) j l
      ∙ by_lt j up
      (λ p.
      ap (λ (t : Bool). bit lo (down + j) || (t && bit hi (j - up))) (lt-leb up j p) ∙ or-false (bit lo (down + j))
      ∙ sym (ap (λ (t : Bool). choose t (bit lo (down + j)) (bit hi (down + j - w))) (lt-ltb (down + j) w (omega arith))))
      (λ p.
      ap₂ (λ (t u : Bool). t || (u && bit hi (j - up))) (bit_past lo w (down + j) h (omega arith)) (le-leb up j p)
      ∙ ap (bit hi) (omega arith)
      ∙ sym (ap (λ (t : Bool). choose t (bit lo (down + j)) (bit hi (down + j - w))) (le-ltb (down + j) w (omega arith))));
}

-- ---- the least place

-- x is not 0: its least place is below the width
pub least_bit : (w x : ℕ) → 0 < x → x < 2 ^ w → least_from (bit x) 0 w < w
least_bit w x p h =
    let r : Least (bit x) 0 (0 + w) (least_from (bit x) 0 w) = least (bit x) 0 w in
    by_lt (least_from (bit x) 0 w) w (λ l. l)
    (λ l. absurd (omega (arith, no_bits w x h (λ j m. r.under j (omega arith) (omega arith)))))

module _ (w x : ℕ) (pos : 0 < x) (hx : x < 2 ^ w) where
  abbrev t : ℕ
  t = least_from (bit x) 0 w

  here : bit x t ≡ true
  here = (least (bit x) 0 w).here (omega (arith, least_bit w x pos hx))

  below : (j : ℕ) → j < t → bit x j ≡ false
  below j l = (least (bit x) 0 w).under j (omega arith) l

  alone : (i : ℕ) → i < suc t → bit (2 ^ t) i ≡ eqb i t
  alone i l =
      ap (λ (y : ℕ). bit y i) (sym (mod-eq_of_lt (subst (λ (y : ℕ). y < 2 ^ suc t) (sym (one-mul (2 ^ t))) (pow-lt (omega arith))) ∙ one-mul (2 ^ t)))
      ∙ bit-one t (suc t) i l

  -- the digits up to the least place are that one alone
  low_part : x % 2 ^ suc t ≡ 2 ^ t
  low_part =
      bits_ext (suc t) (x % 2 ^ suc t) (2 ^ t) (mod-lt x (pow_pos (suc t))) (pow-lt (omega arith))
      (λ i l.
      bit-mod x (suc t) i l
      ∙ by_eq i t
      (λ e. ap (bit x) e ∙ here ∙ sym (alone i l ∙ eq-eqb i t e))
      (λ n. below i (omega arith) ∙ sym (alone i l ∙ ne_eqb i t n)))

  high_part : ℕ
  high_part = x / 2 ^ suc t

  parts : x ≡ high_part * 2 ^ suc t + 2 ^ t
  unfolding high_part
  parts = sym (split x (suc t)) ∙ ap (λ (y : ℕ). x / 2 ^ suc t * 2 ^ suc t + y) low_part

  low_lt : 2 ^ t - 1 < 2 ^ suc t
  low_lt = omega (arith, pow-suc 2 t, pow_pos t)

  less : x - 1 ≡ high_part * 2 ^ suc t + (2 ^ t - 1)
  less = omega (arith, parts, pow_pos t)

  -- above the least place a lower part changes nothing
  above : (i lo : ℕ) → t < i → lo < 2 ^ suc t → bit (high_part * 2 ^ suc t + lo) i ≡ bit high_part (i - suc t)
  above i lo p l = ap (bit (high_part * 2 ^ suc t + lo)) (omega arith) ∙ bit_cat_high high_part (suc t) lo (i - suc t) l

  less_one : (i : ℕ) → bit x i && bit (x - 1) i ≡ bit x i && not (eqb i t)
  less_one i =
      by_lt i t
      (λ p. ap (λ (a : Bool). a && bit (x - 1) i) (below i p) ∙ sym (ap (λ (a : Bool). a && not (eqb i t)) (below i p)))
      (λ p. by_eq i t
      (λ e.
      ap (λ (a : Bool). bit x i && a)
      (ap (λ (y : ℕ). bit y i) less ∙ bit_cat_low high_part (suc t) (2 ^ t - 1) i low_lt (omega arith) ∙ bit_ones t i ∙ le-ltb i t p
      ∙ sym (ap not (eq-eqb i t e))))
      (λ n.
      ap (λ (a : Bool). bit x i && a)
      (ap (λ (y : ℕ). bit y i) less ∙ above i (2 ^ t - 1) (omega arith) low_lt ∙ sym (above i (2 ^ t) (omega arith) (pow-lt (omega arith)))
      ∙ ap (λ (y : ℕ). bit y i) (sym parts))
      ∙ and_same (bit x i)
      ∙ sym (ap (λ (a : Bool). bit x i && not a) (ne_eqb i t n) ∙ and-keep (bit x i))))

-- `x & (x - 1)`, by what the wrapping subtraction gives
pub clear_lowest : (w x y : ℕ) → x < 2 ^ w → y < 2 ^ w → (y + 1) % 2 ^ w ≡ x → bit_and x y ≡ without_least w x
unfolding without_least
clear_lowest w zero y hx hy e =
    pack_is w 0 (λ i. bit 0 i && not (eqb i (least_from (bit 0) 0 w))) hx
    (λ i l. bit-zero i ∙ sym (ap (λ (a : Bool). a && not (eqb i (least_from (bit 0) 0 w))) (bit-zero i)))
clear_lowest w (suc x) y hx hy e =
    pack_is w (bit_and (suc x) y) (λ i. bit (suc x) i && not (eqb i (least_from (bit (suc x)) 0 w))) (and_lt w (suc x) y hx hy)
    (λ i l. bit-and (suc x) y i ∙ ap (λ (z : ℕ). bit (suc x) i && bit z i) y_is ∙ less_one w (suc x) (omega arith) hx i)
  where
    y_is : y ≡ suc x - 1
    y_is =
        by_eq (y + 1) (2 ^ w)
        (λ q. absurd (omega (arith, sym e ∙ ap (λ (z : ℕ). z % 2 ^ w) q ∙ mod_self (2 ^ w))))
        (λ n. let q : y + 1 ≡ suc x = sym (mod-eq_of_lt (omega arith)) ∙ e in omega arith)

-- ---- mirrored

-- y is x mirrored, and mirrored again it is x
pub record Mirrors (w x y : ℕ) : Type 0 where
  pub fits : y < 2 ^ w
  pub place : (i j : ℕ) → i + j + 1 ≡ w → bit y i ≡ bit x j
  pub back : mirrored w y ≡ x

pub mirrors : (w x : ℕ) → x < 2 ^ w → Mirrors w x (mirrored w x)
unfolding mirrored
mirrors w x h = record {
  fits = pack-lt w (λ i. bit x (w - suc i));
  place = λ i j e. bit-pack w (λ i. bit x (w - suc i)) i (omega arith) ∙ ap (bit x) (omega arith);
  back =
      sym
      (pack_is w x (λ i. bit (mirrored w x) (w - suc i)) h
      (λ i l. sym (bit-pack w (λ i. bit x (w - suc i)) (w - suc i) (omega arith) ∙ ap (bit x) (omega arith))));
}
