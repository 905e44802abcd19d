-- The number of set bits of each byte, counted in all bytes at once. What the steps do to one byte is computed at all 256.
use mathlib.Core.Path.{◌≡◌, refl, sym, ap, ap₂, ◌∙◌}
use Prim.Native.Nat.{ℕ, zero, suc, ◌+◌, ◌-◌, ◌*◌, ◌/◌, ◌%◌, ◌^◌, ◌≤◌, ◌<◌}
use native.Mathlib.Nat.{mod-eq_of_lt, add-sub_cancel_left}
use native.Mathlib.Omega.{arith}
use lib.Dec.{T, leb, eqb, leb→le, eqb→eq}
use lib.Bits.{bit_and, and_block, and_le_r, and_mask, and_zero_r}
use Rattle.word.specs.Sets.{count_below}
use Rattle.word.specs.Places.{bit}
use Rattle.word.proofs.Cases.{every, every_at}
use Rattle.select.specs.Select.{byte_of}
use Rattle.select.specs.Kernels.{num, set_in}
use Rattle.select.proofs.Digits.{DigitsBelow, up, rest, num-byte, byte_le, num-add, num-sub, num-and}

-- ---- a test at every byte

le-at : (f g : ℕ → ℕ) → T (every (λ y. leb (f y) (g y)) 256) → (y : ℕ) → y ≤ 255 → f y ≤ g y
le-at f g t y h = leb→le (f y) (g y) (every_at (λ y. leb (f y) (g y)) 256 t y (omega arith))

eq-at : (f g : ℕ → ℕ) → T (every (λ y. eqb (f y) (g y)) 256) → (y : ℕ) → y ≤ 255 → f y ≡ g y
eq-at f g t y h = eqb→eq (f y) (g y) (every_at (λ y. eqb (f y) (g y)) 256 t y (omega arith))

-- ---- the steps, at one byte

unfoldable twos : ℕ → ℕ
twos y = y - bit_and (y / 2 ^ 1) 0x55

unfoldable fours : ℕ → ℕ
unfolding twos
fours y = bit_and (twos y) 0x33 + bit_and (twos y / 2 ^ 2) 0x33

pair-le : (y : ℕ) → y ≤ 255 → bit_and (y / 2 ^ 1) 0x55 ≤ y
pair-le = le-at (λ y. bit_and (y / 2 ^ 1) 0x55) (λ y. y) tt

fours_le : (y : ℕ) → y ≤ 255 → fours y ≤ 0x44
unfolding fours
fours_le = le-at fours (λ y. 0x44) tt

nibble_le : (y : ℕ) → y ≤ 255 → fours y % 16 ≤ 4
unfolding fours
nibble_le = le-at (λ y. fours y % 16) (λ y. 4) tt

byte-count : (y : ℕ) → y ≤ 255 → (fours y + fours y / 16) % 16 ≡ count_below (bit y) 8
unfolding fours count_below bit
byte-count = eq-at (λ y. (fours y + fours y / 16) % 16) (λ y. count_below (bit y) 8) tt

-- ---- a shift to the right, and a mask that keeps each byte's own bits

module _ (j i b : ℕ) (hb : b < 2 ^ i) (small : b ≤ 255)
    (cut : (n r : ℕ) → (n * 2 ^ 8 + r) / 2 ^ j ≡ n / 2 ^ j * 2 ^ 8 + (n % 2 ^ j * 2 ^ i + r / 2 ^ j))
    (part : (r : ℕ) → r ≤ 255 → r / 2 ^ j < 2 ^ i)
    (whole : (n r : ℕ) → r ≤ 255 → n % 2 ^ j * 2 ^ i + r / 2 ^ j < 2 ^ 8) where
  and_own : (a r : ℕ) → r < 2 ^ i → bit_and (a * 2 ^ i + r) b ≡ bit_and r b
  and_own a r h = ap (bit_and (a * 2 ^ i + r)) (omega arith) ∙ and_block i a 0 r b h hb ∙ ap (λ (y : ℕ). y * 2 ^ i + bit_and r b) (and_zero_r a) ∙ omega arith

  shr-and : (m : ℕ) (f : ℕ → ℕ) → DigitsBelow 255 m f → bit_and (num m f / 2 ^ j) (num m (λ k. b)) ≡ num m (λ k. bit_and (f k / 2 ^ j) b)
  unfolding num
  shr-and zero f h = and_zero_r (0 / 2 ^ j)
  shr-and (suc m) f h =
      let n : ℕ = num m (up f) in
      let l : f 0 ≤ 255 = h 0 (omega arith) in
      ap (λ (y : ℕ). bit_and y (num m (λ k. b) * 2 ^ 8 + b)) (cut n (f 0))
      ∙ and_block 8 (n / 2 ^ j) (num m (λ k. b)) (n % 2 ^ j * 2 ^ i + f 0 / 2 ^ j) b (whole n (f 0) l) (omega arith)
      ∙ ap₂ (λ (y z : ℕ). y * 2 ^ 8 + z) (shr-and m (up f) (rest f h)) (and_own (n % 2 ^ j) (f 0 / 2 ^ j) (part (f 0) l))

shr1_and : (m : ℕ) (f : ℕ → ℕ) → DigitsBelow 255 m f → bit_and (num m f / 2 ^ 1) (num m (λ k. 0x55)) ≡ num m (λ k. bit_and (f k / 2 ^ 1) 0x55)
shr1_and = shr-and 1 7 0x55 (omega arith) (omega arith) (λ n r. omega arith) (λ r h. omega arith) (λ n r h. omega arith)

shr2_and : (m : ℕ) (f : ℕ → ℕ) → DigitsBelow 255 m f → bit_and (num m f / 2 ^ 2) (num m (λ k. 0x33)) ≡ num m (λ k. bit_and (f k / 2 ^ 2) 0x33)
shr2_and = shr-and 2 6 0x33 (omega arith) (omega arith) (λ n r. omega arith) (λ r h. omega arith) (λ n r h. omega arith)

-- the two halves of each byte added, where each is at most 4
low_nibble : (m : ℕ) (f : ℕ → ℕ) → ((k : ℕ) → f k % 16 ≤ 4) → num m f % 16 ≤ 4
unfolding num
low_nibble zero f h = omega arith
low_nibble (suc m) f h = omega (arith, h 0)

num_nibbles : (m : ℕ) (f : ℕ → ℕ) → ((k : ℕ) → f k ≤ 0x44) → ((k : ℕ) → f k % 16 ≤ 4)
    → bit_and (num m f + num m f / 2 ^ 4) (num m (λ k. 15)) ≡ num m (λ k. (f k + f k / 16) % 16)
unfolding num
num_nibbles zero f h l = refl
num_nibbles (suc m) f h l =
    let n : ℕ = num m (up f) in
    let r : ℕ = n % 16 * 16 + (f 0 + f 0 / 16) in
    let e : n * 2 ^ 8 + f 0 + (n * 2 ^ 8 + f 0) / 2 ^ 4 ≡ (n + n / 2 ^ 4) * 2 ^ 8 + r = omega arith in
    let small : r < 2 ^ 8 = omega (arith, h 0, l 0, low_nibble m (up f) (λ k. l (suc k))) in
    let last : r % 16 ≡ (f 0 + f 0 / 16) % 16 = omega arith in
    ap (λ (y : ℕ). bit_and y (num m (λ k. 15) * 2 ^ 8 + 15)) e
    ∙ and_block 8 (n + n / 2 ^ 4) (num m (λ k. 15)) r 15 small (omega arith)
    ∙ ap₂ (λ (y z : ℕ). y * 2 ^ 8 + z) (num_nibbles m (up f) (λ k. h (suc k)) (λ k. l (suc k))) (and_mask r 4 ∙ last)

-- ---- the three steps at a word, as the code has them

abbrev pub paired : ℕ → ℕ
paired x = x - bit_and (x / 2 ^ 1) 0x5555_5555_5555_5555

abbrev pub summed : ℕ → ℕ
summed s = bit_and s 0x3333_3333_3333_3333 + bit_and (s / 2 ^ 2) 0x3333_3333_3333_3333

pub added-le : (s : ℕ) → summed s ≤ 0x6666_6666_6666_6666
added-le s = omega (arith, and_le_r s 0x3333_3333_3333_3333, and_le_r (s / 2 ^ 2) 0x3333_3333_3333_3333)

module _ (x : ℕ) (hx : x < 2 ^ 64) where
  own_bytes : x ≡ num 8 (byte_of x)
  own_bytes = sym (num-byte 8 x ∙ mod-eq_of_lt hx)

  pairs_in : bit_and (x / 2 ^ 1) 0x5555_5555_5555_5555 ≡ num 8 (λ k. bit_and (byte_of x k / 2 ^ 1) 0x55)
  unfolding num
  pairs_in = ap (λ (y : ℕ). bit_and (y / 2 ^ 1) 0x5555_5555_5555_5555) own_bytes ∙ shr1_and 8 (byte_of x) (λ k l. byte_le x k)

  paired_parts : x ≡ bit_and (x / 2 ^ 1) 0x5555_5555_5555_5555 + num 8 (λ k. twos (byte_of x k))
  unfolding twos
  paired_parts =
      own_bytes ∙ num-sub 8 (byte_of x) (λ k. bit_and (byte_of x k / 2 ^ 1) 0x55) (λ k l. pair-le (byte_of x k) (byte_le x k))
      ∙ ap (λ (y : ℕ). y + num 8 (λ k. twos (byte_of x k))) (sym pairs_in)

  pub no_wrap : bit_and (x / 2 ^ 1) 0x5555_5555_5555_5555 ≤ x
  no_wrap = omega (arith, paired_parts)

  paired_is : paired x ≡ num 8 (λ k. twos (byte_of x k))
  paired_is = ap (λ (y : ℕ). y - bit_and (x / 2 ^ 1) 0x5555_5555_5555_5555) paired_parts ∙ add-sub_cancel_left (bit_and (x / 2 ^ 1) 0x5555_5555_5555_5555) (num 8 (λ k. twos (byte_of x k)))

  twos_le : (k : ℕ) → twos (byte_of x k) ≤ 255
  unfolding twos
  twos_le k = omega (arith, byte_le x k)

  added_is : summed (paired x) ≡ num 8 (λ k. fours (byte_of x k))
  unfolding fours num
  added_is =
      ap summed paired_is
      ∙ ap₂ (λ (y z : ℕ). y + z)
      (num-and 8 (λ k. twos (byte_of x k)) (λ k. 0x33) (λ k l. twos_le k) (λ k l. omega arith))
      (shr2_and 8 (λ k. twos (byte_of x k)) (λ k l. twos_le k))
      ∙ num-add 8 (λ k. bit_and (twos (byte_of x k)) 0x33) (λ k. bit_and (twos (byte_of x k) / 2 ^ 2) 0x33)

  pub counted : bit_and (summed (paired x) + summed (paired x) / 2 ^ 4) 0x0f0f_0f0f_0f0f_0f0f ≡ num 8 (set_in x)
  unfolding num
  counted =
      ap (λ (y : ℕ). bit_and (y + y / 2 ^ 4) 0x0f0f_0f0f_0f0f_0f0f) added_is
      ∙ num_nibbles 8 (λ k. fours (byte_of x k)) (λ k. fours_le (byte_of x k) (byte_le x k)) (λ k. nibble_le (byte_of x k) (byte_le x k))
      ∙ (λ i. num 8 (λ k. byte-count (byte_of x k) (byte_le x k) i))
