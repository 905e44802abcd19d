-- The laws of `bit` and `pack`, over the width.
use Rattle.std.proofs.Common.{◌≡◌, ℕ, zero, suc, ◌+◌, ◌-◌, ◌*◌, ◌/◌, ◌%◌, ◌^◌, ◌<◌, ◌≤◌, Bool, true, false, not, ◌&&◌, ◌||◌, eqb, ltb, leb, sym, refl, ap, ◌∙◌, subst, ap₂, ⊎_elim, lt_of_lt_of_le, le_of_suc-le-suc, not-suc-le-zero, add-zero, mod-lt, mul_assoc, add-mul, eq-or-lt_of_le, pow-suc, div-one, arith, pow_pos, pow_mono, pow-add, shr-shr, shr_lt, ltb-false, ltb-true, ne_eqb, leb-false, leb-true}
use native.Mathlib.Nat.{div-eq_of_lt, zero-div}
use lib.Pow.{split, high, low, shl-shr, field, mod-mod-pow, ones_split, ones_lt}
use lib.Bits.{bit_and, bit_or, bit_xor, and_shr, or_shr, xor_shr, and_mod, or_mod, xor_mod, shifted_even}
use Rattle.word.specs.Sets.{val, xorb}
use Rattle.word.specs.Places.{is_one, bit, pack}
use Rattle.word.proofs.Cases.{eqb_same}

-- ---- the three operations, digit by digit

module _ (op : ℕ → ℕ → ℕ) (f : Bool → Bool → Bool)
    (shr : (a b k : ℕ) → op a b / 2 ^ k ≡ op (a / 2 ^ k) (b / 2 ^ k))
    (low1 : (a b k : ℕ) → op a b % 2 ^ k ≡ op (a % 2 ^ k) (b % 2 ^ k))
    (table : (d e : ℕ) → d < 2 → e < 2 → is_one (op d e) ≡ f (is_one d) (is_one e)) where
  bit_op : (a b i : ℕ) → bit (op a b) i ≡ f (bit a i) (bit b i)
  unfolding bit
  bit_op a b i =
      ap (λ (x : ℕ). is_one (x % 2)) (shr a b i)
      ∙ ap is_one (low1 (a / 2 ^ i) (b / 2 ^ i) 1)
      ∙ table (a / 2 ^ i % 2) (b / 2 ^ i % 2) (omega arith) (omega arith)

and-table : (d e : ℕ) → d < 2 → e < 2 → is_one (bit_and d e) ≡ is_one d && is_one e
and-table zero e hd he = refl
and-table (suc zero) zero hd he = refl
and-table (suc zero) (suc zero) hd he = refl
and-table (suc zero) (suc (suc e)) hd he = absurd (omega arith)
and-table (suc (suc d)) e hd he = absurd (omega arith)

or-table : (d e : ℕ) → d < 2 → e < 2 → is_one (bit_or d e) ≡ is_one d || is_one e
or-table zero e hd he = refl
or-table (suc zero) zero hd he = refl
or-table (suc zero) (suc zero) hd he = refl
or-table (suc zero) (suc (suc e)) hd he = absurd (omega arith)
or-table (suc (suc d)) e hd he = absurd (omega arith)

xor-table : (d e : ℕ) → d < 2 → e < 2 → is_one (bit_xor d e) ≡ xorb (is_one d) (is_one e)
xor-table zero zero hd he = refl
xor-table zero (suc e) hd he = refl
xor-table (suc zero) zero hd he = refl
xor-table (suc zero) (suc zero) hd he = refl
xor-table (suc zero) (suc (suc e)) hd he = absurd (omega arith)
xor-table (suc (suc d)) e hd he = absurd (omega arith)

pub bit-and : (a b i : ℕ) → bit (bit_and a b) i ≡ bit a i && bit b i
bit-and = bit_op bit_and (λ p q. p && q) and_shr and_mod and-table

pub bit-or : (a b i : ℕ) → bit (bit_or a b) i ≡ bit a i || bit b i
bit-or = bit_op bit_or (λ p q. p || q) or_shr or_mod or-table

pub bit-xor : (a b i : ℕ) → bit (bit_xor a b) i ≡ xorb (bit a i) (bit b i)
bit-xor = bit_op bit_xor xorb xor_shr xor_mod xor-table

-- ---- parts of a number

pub bit-zero : (i : ℕ) → bit 0 i ≡ false
unfolding bit
bit-zero i = ap (λ (x : ℕ). is_one (x % 2)) (zero-div (2 ^ i))

pub bit-shr : (x k i : ℕ) → bit (x / 2 ^ k) i ≡ bit x (k + i)
unfolding bit
bit-shr x k i = ap (λ (y : ℕ). is_one (y % 2)) (shr-shr x k i)

-- a digit past the number's length is 0
pub bit_past : (x k i : ℕ) → x < 2 ^ k → k ≤ i → bit x i ≡ false
unfolding bit
bit_past x k i h l = ap (λ (y : ℕ). is_one (y % 2)) (div-eq_of_lt (lt_of_lt_of_le h (pow_mono l)))

-- the low k digits
pub bit-mod : (x k i : ℕ) → i < k → bit (x % 2 ^ k) i ≡ bit x i
unfolding bit
bit-mod x k i h =
    let j : ℕ = k - suc i in
    let e : j + 1 + i ≡ k = omega arith in
    ap (λ (y : ℕ). is_one (y % 2)) (ap (λ (m : ℕ). x % 2 ^ m / 2 ^ i) (sym e) ∙ field x (j + 1) i)
    ∙ ap is_one (mod-mod-pow (x / 2 ^ i) j 1)

-- a number in two parts
pub bit_cat_low : (hi k lo i : ℕ) → lo < 2 ^ k → i < k → bit (hi * 2 ^ k + lo) i ≡ bit lo i
bit_cat_low hi k lo i h l = sym (bit-mod (hi * 2 ^ k + lo) k i l) ∙ ap (λ (y : ℕ). bit y i) (low hi k h)

pub bit_cat_high : (hi k lo i : ℕ) → lo < 2 ^ k → bit (hi * 2 ^ k + lo) (k + i) ≡ bit hi i
bit_cat_high hi k lo i h = sym (bit-shr (hi * 2 ^ k + lo) k i) ∙ ap (λ (y : ℕ). bit y i) (high hi k h)

-- ---- a shift to the left

shl_low : (x k i : ℕ) → i < k → bit (x * 2 ^ k) i ≡ false
unfolding bit
shl_low x k i h =
    let j : ℕ = k - suc i in
    let e : suc j + i ≡ k = omega arith in
    let two : x * 2 ^ k ≡ x * 2 ^ suc j * 2 ^ i =
    ap (λ (m : ℕ). x * 2 ^ m) (sym e) ∙ ap (λ (y : ℕ). x * y) (pow-add 2 (suc j) i) ∙ sym (mul_assoc x (2 ^ suc j) (2 ^ i)) in
    ap (λ (y : ℕ). is_one (y / 2 ^ i % 2)) two
    ∙ ap (λ (y : ℕ). is_one (y % 2)) (shl-shr (x * 2 ^ suc j) i)
    ∙ ap is_one (shifted_even x j)

shl_high : (x k i : ℕ) → k ≤ i → bit (x * 2 ^ k) i ≡ bit x (i - k)
shl_high x k i h =
    let e : k + (i - k) ≡ i = omega arith in
    ap (bit (x * 2 ^ k)) (sym e) ∙ sym (bit-shr (x * 2 ^ k) k (i - k)) ∙ ap (λ (y : ℕ). bit y (i - k)) (shl-shr x k)

pub bit-shl : (x k i : ℕ) → bit (x * 2 ^ k) i ≡ leb k i && bit x (i - k)
bit-shl x k i = go (leb k i) refl
  where
    go : (t : Bool) → leb k i ≡ t → bit (x * 2 ^ k) i ≡ t && bit x (i - k)
    go true e = shl_high x k i (leb-true k i e)
    go false e = shl_low x k i (leb-false k i e)

pub bit-shl-mod : (x k w i : ℕ) → i < w → bit (x * 2 ^ k % 2 ^ w) i ≡ leb k i && bit x (i - k)
bit-shl-mod x k w i h = bit-mod (x * 2 ^ k) w i h ∙ bit-shl x k i

-- ---- masks and the complement

ones_digit : (j : ℕ) → (2 ^ suc j - 1) % 2 ≡ 1
ones_digit j = omega (arith, pow-suc 2 j, pow_pos j)

ones_low : (k i : ℕ) → i < k → bit (2 ^ k - 1) i ≡ true
unfolding bit
ones_low k i h =
    let j : ℕ = k - suc i in
    let e : suc j + i ≡ k = omega arith in
    ap (λ (m : ℕ). is_one ((2 ^ m - 1) / 2 ^ i % 2)) (sym e)
    ∙ ap (λ (y : ℕ). is_one (y / 2 ^ i % 2)) (ones_split (suc j) i)
    ∙ ap (λ (y : ℕ). is_one (y % 2)) (high (2 ^ suc j - 1) i (ones_lt i))
    ∙ ap is_one (ones_digit j)

pub bit_ones : (k i : ℕ) → bit (2 ^ k - 1) i ≡ ltb i k
bit_ones k i = go (ltb i k) refl
  where
    go : (t : Bool) → ltb i k ≡ t → bit (2 ^ k - 1) i ≡ t
    go true e = ones_low k i (ltb-true i k e)
    go false e = bit_past (2 ^ k - 1) k i (ones_lt k) (ltb-false i k e)

flip : (d e : ℕ) → d + e ≡ 1 → is_one d ≡ not (is_one e)
flip zero zero h = absurd (omega arith)
flip zero (suc e) h = refl
flip (suc d) zero h = refl
flip (suc d) (suc e) h = absurd (omega arith)

pub bit_not : (x w i : ℕ) → x < 2 ^ w → i < w → bit ((2 ^ w - 1) - x) i ≡ not (bit x i)
unfolding bit
bit_not x w i hx h =
    let j : ℕ = w - suc i in
    let e : suc j + i ≡ w = omega arith in
    let A : ℕ = 2 ^ i in
    let B : ℕ = 2 ^ suc j in
    let q : ℕ = x / 2 ^ i in
    let r : ℕ = x % 2 ^ i in
    let pw : 2 ^ w ≡ B * A = ap (λ (m : ℕ). 2 ^ m) (sym e) ∙ pow-add 2 (suc j) i in
    let hr : r < A = mod-lt x (pow_pos i) in
    let hq : q < B = shr_lt (suc j) i (subst (λ (m : ℕ). x < 2 ^ m) (sym e) hx) in
    let xs : q * A + r ≡ x = split x i in
    let g : ℕ = (B - 1) - q in
    let be : g + (q + 1) ≡ B = omega arith in
    let ba : g * A + (q + 1) * A ≡ B * A = sym (add-mul g (q + 1) A) ∙ ap (λ (y : ℕ). y * A) be in
    let qa : (q + 1) * A ≡ q * A + 1 * A = add-mul q 1 A in
    let body : (2 ^ w - 1) - x ≡ g * A + ((A - 1) - r) = omega arith in
    ap (λ (y : ℕ). is_one (y / 2 ^ i % 2)) body
    ∙ ap (λ (y : ℕ). is_one (y % 2)) (high g i (omega arith))
    ∙ flip (g % 2) (q % 2) (omega (arith, pow-suc 2 j))

-- ---- equal digits, equal numbers

same-digit : (d e : ℕ) → d < 2 → e < 2 → is_one d ≡ is_one e → d ≡ e
same-digit zero zero hd he p = refl
same-digit zero (suc e) hd he p = absurd (mathlib.Core.Bool.false≢true p)
same-digit (suc d) zero hd he p = absurd (mathlib.Core.Bool.true≢false p)
same-digit (suc d) (suc e) hd he p = omega arith

pub bit-suc : (x i : ℕ) → bit x (suc i) ≡ bit (x / 2) i
bit-suc x i = ap (bit x) (sym (native.Mathlib.Numerals.one-add i)) ∙ sym (bit-shr x 1 i)

pub bits_ext : (w x y : ℕ) → x < 2 ^ w → y < 2 ^ w → ((i : ℕ) → i < w → bit x i ≡ bit y i) → x ≡ y
unfolding bit
bits_ext zero x y hx hy h = omega arith
bits_ext (suc w) x y hx hy h =
    let half : x / 2 ≡ y / 2 =
    bits_ext w (x / 2) (y / 2) (omega (arith, pow-suc 2 w)) (omega (arith, pow-suc 2 w))
    (λ i l. sym (bit-suc x i) ∙ h (suc i) (omega arith) ∙ bit-suc y i) in
    let dig : x % 2 ≡ y % 2 =
    same-digit (x % 2) (y % 2) (omega arith) (omega arith)
    (ap (λ (z : ℕ). is_one (z % 2)) (sym (div-one x)) ∙ h 0 (omega arith) ∙ ap (λ (z : ℕ). is_one (z % 2)) (div-one y)) in
    omega arith

-- ---- the number of given digits

val-le : (t : Bool) → val t ≤ 1
val-le true = omega arith
val-le false = omega arith

bit_val : (t : Bool) → bit (val t) 0 ≡ t
unfolding bit
bit_val true = refl
bit_val false = refl

cat_lt : (t : Bool) (w r : ℕ) → r < 2 ^ w → val t * 2 ^ w + r < 2 ^ suc w
cat_lt true w r h = omega (arith, pow-suc 2 w)
cat_lt false w r h = omega (arith, pow-suc 2 w)

pub pack-lt : (w : ℕ) (p : ℕ → Bool) → pack w p < 2 ^ w
unfolding pack
pack-lt zero p = omega arith
pack-lt (suc w) p = cat_lt (p w) w (pack w p) (pack-lt w p)

pub bit-pack : (w : ℕ) (p : ℕ → Bool) (i : ℕ) → i < w → bit (pack w p) i ≡ p i
unfolding pack
bit-pack zero p i h = absurd (not-suc-le-zero h)
bit-pack (suc w) p i h =
    ⊎_elim
    (λ e. ap (bit (val (p w) * 2 ^ w + pack w p)) (e ∙ sym (add-zero w)) ∙ bit_cat_high (val (p w)) w (pack w p) 0 (pack-lt w p) ∙ bit_val (p w) ∙ ap p (sym e))
    (λ l. bit_cat_low (val (p w)) w (pack w p) i (pack-lt w p) l ∙ bit-pack w p i l)
    (eq-or-lt_of_le (le_of_suc-le-suc h))

pub pack_ext : (w : ℕ) (p q : ℕ → Bool) → ((i : ℕ) → i < w → p i ≡ q i) → pack w p ≡ pack w q
unfolding pack
pack_ext zero p q h = refl
pack_ext (suc w) p q h =
    ap₂ (λ (t : Bool) (y : ℕ). val t * 2 ^ w + y) (h w (omega arith)) (pack_ext w p q (λ i l. h i (omega arith)))

-- a number is the one with the digits p where each of its digits is p's
pub pack_is : (w x : ℕ) (p : ℕ → Bool) → x < 2 ^ w → ((i : ℕ) → i < w → bit x i ≡ p i) → x ≡ pack w p
pack_is w x p hx h = bits_ext w x (pack w p) hx (pack-lt w p) (λ i l. h i l ∙ sym (bit-pack w p i l))

pub pack-bit : (w x : ℕ) → pack w (bit x) ≡ x % 2 ^ w
pack-bit w x = sym (pack_is w (x % 2 ^ w) (bit x) (mod-lt x (pow_pos w)) (λ i l. bit-mod x w i l))

-- ---- one bit

one_bit : (d : ℕ) → bit 1 d ≡ eqb d 0
one_bit zero = bit_val true
one_bit (suc d) = bit_past 1 1 (suc d) (omega arith) (omega arith) ∙ sym (ne_eqb (suc d) 0 (omega arith))

pub bit-one : (r w j : ℕ) → j < w → bit (1 * 2 ^ r % 2 ^ w) j ≡ eqb j r
bit-one r w j h = bit-shl-mod 1 r w j h ∙ go (leb r j) refl
  where
    go : (t : Bool) → leb r j ≡ t → t && bit 1 (j - r) ≡ eqb j r
    go false e = let l : j < r = leb-false r j e in sym (ne_eqb j r (omega arith))
    go true e =
        let l : r ≤ j = leb-true r j e in
        one_bit (j - r) ∙ eqb_same (j - r) 0 j r (λ q. omega arith) (λ q. omega arith)

-- ---- the digits from r on: `(x >> r) << r`

pub bit_from : (x r w j : ℕ) → j < w → bit (x / 2 ^ r * 2 ^ r % 2 ^ w) j ≡ leb r j && bit x j
bit_from x r w j h = bit-shl-mod (x / 2 ^ r) r w j h ∙ go (leb r j) refl
  where
    go : (t : Bool) → leb r j ≡ t → t && bit (x / 2 ^ r) (j - r) ≡ t && bit x j
    go false e = refl
    go true e = let l : r ≤ j = leb-true r j e in bit-shr x r (j - r) ∙ ap (bit x) (omega arith)

-- a number with no digit set is 0
pub no_bits : (w x : ℕ) → x < 2 ^ w → ((j : ℕ) → j < w → bit x j ≡ false) → x ≡ 0
no_bits w x h f = bits_ext w x 0 h (pow_pos w) (λ j l. f j l ∙ sym (bit-zero j))
