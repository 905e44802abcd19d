-- How many of eight bytes are at most n, by one difference and one product.
use mathlib.Core.Path.{◌≡◌, refl, sym, ap, ap₂, ◌∙◌, subst}
use mathlib.Core.Bool.{Bool, true, false}
use Prim.Native.Nat.{ℕ, zero, suc, ◌+◌, ◌-◌, ◌*◌, ◌/◌, ◌%◌, ◌^◌, ◌≤◌, ◌<◌}
use native.Mathlib.Nat.{mod-eq_of_lt, mul-suc, zero-add, add-sub_cancel_left}
use native.Mathlib.Numerals.{one-add}
use native.Mathlib.Omega.{arith}
use borrow.Author.Tests.{leb-true, leb-false, lt-leb}
use lib.Dec.{leb}
use lib.Pow.{shl-shr, shr_mod}
use lib.Bits.{bit_and, bit_or, and_high, or_shifted_r}
use Rattle.word.specs.Sets.{val}
use Rattle.word.proofs.Sets.{val-le}
use Rattle.select.specs.Select.{byte_of}
use Rattle.select.specs.Kernels.{num, sum_below, at_most, Room}
use Rattle.select.proofs.Digits.{DigitsBelow, up, num-byte, byte-num, num_ext, num-lt, num-sub, num-same, num_scale, num-and, num-or, product}

-- ---- sums

pub up_to-le : (m : ℕ) (f : ℕ → ℕ) (b : ℕ) → ((k : ℕ) → f k ≤ b) → sum_below f m ≤ b * m
unfolding sum_below
up_to-le zero f b h = omega arith
up_to-le (suc m) f b h = omega (arith, up_to-le m (up f) b (λ k. h (suc k)), h 0, mul-suc b m)

pub up_to_ext : (m : ℕ) (f g : ℕ → ℕ) → ((k : ℕ) → k < m → f k ≡ g k) → sum_below f m ≡ sum_below g m
unfolding sum_below
up_to_ext zero f g h = refl
up_to_ext (suc m) f g h = ap₂ (λ (p q : ℕ). p + q) (h 0 (omega arith)) (up_to_ext m (up f) (up g) (λ k l. h (suc k) (omega arith)))

-- ---- one byte

top_bit : (n d : ℕ) → n < 128 → d ≤ 128 → bit_and (128 + n - d) 128 ≡ val (leb d n) * 128
top_bit n d h l = and_high (128 + n - d) 1 7 ∙ go (leb d n) refl
  where
    go : (t : Bool) → leb d n ≡ t → (128 + n - d) / 2 ^ 7 % 2 ^ 1 * 2 ^ 7 ≡ val t * 128
    go true e = let m : d ≤ n = leb-true d n e in omega arith
    go false e = let m : n < d = leb-false d n e in omega arith

-- ---- eight bytes

-- 128 + n in each byte
abbrev raised : ℕ → ℕ
raised n = bit_or (n * 0x0101_0101_0101_0101) 0x8080_8080_8080_8080

module _ (c n : ℕ) (hc : c < 2 ^ 64) (room : Room c n) where
  raised_is : raised n ≡ num 8 (λ k. 128 + n)
  unfolding num
  raised_is =
      ap (λ (y : ℕ). bit_or y 0x8080_8080_8080_8080) (sym (num-same 8 n))
      ∙ num-or 8 (λ k. n) (λ k. 128) (λ k l. omega (arith, room.few)) (λ k l. omega arith)
      ∙ ap (λ (y : ℕ). num 8 (λ k. y)) (or_shifted_r 1 7 n room.few)

  raised_split : raised n ≡ c + num 8 (λ k. 128 + n - byte_of c k)
  raised_split =
      raised_is ∙ num-sub 8 (λ k. 128 + n) (byte_of c) (λ k l. omega (arith, room.low k l))
      ∙ ap (λ (y : ℕ). y + num 8 (λ k. 128 + n - byte_of c k)) (num-byte 8 c ∙ mod-eq_of_lt hc)

  pub no_borrow : c ≤ raised n
  no_borrow = omega (arith, raised_split)

  difference_is : raised n - c ≡ num 8 (λ k. 128 + n - byte_of c k)
  difference_is = ap (λ (y : ℕ). y - c) raised_split ∙ add-sub_cancel_left c (num 8 (λ k. 128 + n - byte_of c k))

  tops_is : bit_and (raised n - c) 0x8080_8080_8080_8080 / 2 ^ 7 ≡ num 8 (at_most c n)
  unfolding num
  tops_is =
      ap (λ (y : ℕ). bit_and y 0x8080_8080_8080_8080 / 2 ^ 7) difference_is
      ∙ ap (λ (y : ℕ). y / 2 ^ 7)
      (num-and 8 (λ k. 128 + n - byte_of c k) (λ k. 128) (λ k l. omega (arith, room.few)) (λ k l. omega arith)
      ∙ num_ext 8 (λ k. bit_and (128 + n - byte_of c k) 128) (λ k. at_most c n k * 128) (λ k l. top_bit n (byte_of c k) room.few (room.low k l))
      ∙ num_scale 8 128 (at_most c n))
      ∙ shl-shr (num 8 (at_most c n)) 7

  pub before : (bit_and (raised n - c) 0x8080_8080_8080_8080 / 2 ^ 7 * 0x0101_0101_0101_0101) % 2 ^ 64 / 2 ^ 56 ≡ sum_below (at_most c n) 8
  unfolding num byte_of
  before =
      let f : ℕ → ℕ = λ k. sum_below (at_most c n) (suc k) in
      let h : DigitsBelow 255 8 f = λ k l. omega (arith, up_to-le (suc k) (at_most c n) 1 (λ j. val-le (leb (byte_of c j) n))) in
      ap (λ (y : ℕ). (y * 0x0101_0101_0101_0101) % 2 ^ 64 / 2 ^ 56) tops_is
      ∙ ap (λ (y : ℕ). y / 2 ^ 56) (product 8 (at_most c n) h)
      ∙ sym (shr_mod 8 56 (num-lt 8 f h))
      ∙ byte-num 8 f h 7 (omega arith)

-- ---- the sums grow from one at most n to one above it: how many are at most n is where they pass it

-- e passes n from b to b + 1
pub record SumsPass (e : ℕ → ℕ) (n m b : ℕ) : Type 0 where
  pub within : b < m
  pub from : e b ≤ n
  pub to : n < e (suc b)

none_at : (m : ℕ) (e : ℕ → ℕ) (n : ℕ) → ((k : ℕ) → e k ≤ e (suc k)) → n < e 0 → sum_below (λ k. val (leb (e k) n)) m ≡ 0
unfolding sum_below
none_at zero e n g h = refl
none_at (suc m) e n g h =
    ap₂ (λ (t : Bool) (y : ℕ). val t + y) (lt-leb (e 0) n h) (none_at m (up e) n (λ k. g (suc k)) (omega (arith, g 0)))

pub passes : (m : ℕ) (e : ℕ → ℕ) (n : ℕ) → ((k : ℕ) → e k ≤ e (suc k)) → e 0 ≤ n → n < e m → SumsPass e n m (sum_below (λ k. val (leb (e (suc k)) n)) m)
unfolding sum_below
passes zero e n g l h = absurd (omega arith)
passes (suc m) e n g l h = go (leb (e 1) n) refl (λ a. passes m (up e) n (λ k. g (suc k)) a h)
  where
    b : ℕ
    b = sum_below (λ k. val (leb (e (suc (suc k))) n)) m

    go : (t : Bool) → leb (e 1) n ≡ t → (e 1 ≤ n → SumsPass (up e) n m b) → SumsPass e n (suc m) (val t + b)
    go true q ih =
        let r : SumsPass (up e) n m b = ih (leb-true (e 1) n q) in
        subst (SumsPass e n (suc m)) (sym (one-add b)) (record { within = omega (arith, r.within); from = r.from; to = r.to })
    go false q ih =
        subst (SumsPass e n (suc m)) (sym (zero-add b ∙ none_at m (λ k. e (suc (suc k))) n (λ k. g (suc (suc k))) (omega (arith, leb-false (e 1) n q, g 1))))
        (record { within = omega arith; from = l; to = leb-false (e 1) n q })
