-- The laws of `num`: a number by its bytes.
use mathlib.Core.Path.{◌≡◌, refl, sym, ap, ap₂, ◌∙◌}
use Prim.Native.Nat.{ℕ, zero, suc, ◌+◌, ◌-◌, ◌*◌, ◌/◌, ◌%◌, ◌^◌, ◌≤◌, ◌<◌}
use native.Mathlib.Nat.{not-suc-le-zero, mod-one, div-one, mul-suc, add-mul, mul-add, mul_assoc, mul_right_comm, mul-one, mul_comm, one-mul, zero-mul}
use native.Mathlib.Omega.{arith}
use lib.Arith.{digits_mod}
use lib.Pow.{pow-add, high, low, shr-shr, mod-pow-add}
use lib.Bits.{bit_and, bit_or, and_block, or_block}
use Rattle.select.specs.Select.{byte_of}
use Rattle.select.specs.Kernels.{num, sum_below}

-- f's bytes above the lowest
abbrev pub up : (ℕ → ℕ) → ℕ → ℕ
up f k = f (suc k)

-- each of the m bytes is at most b
abbrev pub DigitsBelow : ℕ → ℕ → (ℕ → ℕ) → Type 0
DigitsBelow b m f = (k : ℕ) → k < m → f k ≤ b

pub rest : {b m : ℕ} (f : ℕ → ℕ) → DigitsBelow b (suc m) f → DigitsBelow b m (up f)
rest f h k l = h (suc k) (omega arith)

pub pow8 : (m : ℕ) → 2 ^ (8 * suc m) ≡ 2 ^ (8 * m) * 2 ^ 8
pow8 m = ap (λ (e : ℕ). 2 ^ e) (mul-suc 8 m) ∙ pow-add 2 (8 * m) 8

pub num-lt : (m : ℕ) (f : ℕ → ℕ) → DigitsBelow 255 m f → num m f < 2 ^ (8 * m)
unfolding num
num-lt zero f h = omega arith
num-lt (suc m) f h = omega (arith, num-lt m (up f) (rest f h), h 0 (omega arith), pow8 m)

-- ---- a byte

pub byte-suc : (x k : ℕ) → byte_of x (suc k) ≡ byte_of (x / 2 ^ 8) k
unfolding byte_of
byte-suc x k = ap (λ (e : ℕ). x / 2 ^ e % 2 ^ 8) (e8 k) ∙ ap (λ (y : ℕ). y % 2 ^ 8) (sym (shr-shr x 8 (8 * k)))
  where
    e8 : (k : ℕ) → 8 * suc k ≡ 8 + 8 * k
    e8 k = omega (arith, mul-suc 8 k)

pub byte-zero : (x : ℕ) → byte_of x 0 ≡ x % 2 ^ 8
unfolding byte_of
byte-zero x = ap (λ (y : ℕ). y % 2 ^ 8) (div-one x)

pub byte_le : (x k : ℕ) → byte_of x k ≤ 255
unfolding byte_of
byte_le x k = omega arith

pub byte-num : (m : ℕ) (f : ℕ → ℕ) → DigitsBelow 255 m f → (k : ℕ) → k < m → byte_of (num m f) k ≡ f k
unfolding num
byte-num zero f h k l = absurd (not-suc-le-zero l)
byte-num (suc m) f h zero l = byte-zero _ ∙ low (num m (up f)) 8 (omega (arith, h 0 l))
byte-num (suc m) f h (suc k) l =
    byte-suc _ k ∙ ap (λ (y : ℕ). byte_of y k) (high (num m (up f)) 8 (omega (arith, h 0 (omega arith))))
    ∙ byte-num m (up f) (rest f h) k (omega arith)

-- a number has its own bytes
pub num-byte : (m x : ℕ) → num m (byte_of x) ≡ x % 2 ^ (8 * m)
unfolding num
num-byte zero x = sym (mod-one x)
num-byte (suc m) x =
    ap₂ (λ (p q : ℕ). p * 2 ^ 8 + q) ((λ i. num m (λ k. byte-suc x k i)) ∙ num-byte m (x / 2 ^ 8)) (byte-zero x)
    ∙ sym (mod-pow-add x (8 * m) 8) ∙ ap (λ (e : ℕ). x % 2 ^ e) (omega (arith, mul-suc 8 m))

pub num_ext : (m : ℕ) (f g : ℕ → ℕ) → ((k : ℕ) → k < m → f k ≡ g k) → num m f ≡ num m g
unfolding num
num_ext zero f g h = refl
num_ext (suc m) f g h = ap₂ (λ (p q : ℕ). p * 2 ^ 8 + q) (num_ext m (up f) (up g) (λ k l. h (suc k) (omega arith))) (h 0 (omega arith))

-- ---- byte by byte

pub num-add : (m : ℕ) (f g : ℕ → ℕ) → num m f + num m g ≡ num m (λ k. f k + g k)
unfolding num
num-add zero f g = refl
num-add (suc m) f g = omega (arith, num-add m (up f) (up g))

pub num-sub : (m : ℕ) (f g : ℕ → ℕ) → ((k : ℕ) → k < m → g k ≤ f k) → num m f ≡ num m g + num m (λ k. f k - g k)
num-sub m f g h = num_ext m f (λ k. g k + (f k - g k)) (λ k l. omega (arith, h k l)) ∙ sym (num-add m g (λ k. f k - g k))

pub num_scale : (m a : ℕ) (f : ℕ → ℕ) → num m (λ k. f k * a) ≡ num m f * a
unfolding num
num_scale zero a f = sym (zero-mul a)
num_scale (suc m) a f = omega (arith, num_scale m a (up f), add-mul (num m (up f) * 2 ^ 8) (f 0) a, mul_right_comm (num m (up f)) (2 ^ 8) a)

pub num-same : (m a : ℕ) → num m (λ k. a) ≡ a * num m (λ k. 1)
num-same m a = ap (λ (y : ℕ). num m (λ k. y)) (sym (one-mul a)) ∙ num_scale m a (λ k. 1) ∙ mul_comm (num m (λ k. 1)) a

module _ (op : ℕ → ℕ → ℕ) (none : op 0 0 ≡ 0)
    (block : (k a b r s : ℕ) → r < 2 ^ k → s < 2 ^ k → op (a * 2 ^ k + r) (b * 2 ^ k + s) ≡ op a b * 2 ^ k + op r s) where
  num_op : (m : ℕ) (f g : ℕ → ℕ) → DigitsBelow 255 m f → DigitsBelow 255 m g → op (num m f) (num m g) ≡ num m (λ k. op (f k) (g k))
  unfolding num
  num_op zero f g h l = none
  num_op (suc m) f g h l =
      block 8 (num m (up f)) (num m (up g)) (f 0) (g 0) (omega (arith, h 0 (omega arith))) (omega (arith, l 0 (omega arith)))
      ∙ ap (λ (y : ℕ). y * 2 ^ 8 + op (f 0) (g 0)) (num_op m (up f) (up g) (rest f h) (rest g l))

pub num-and : (m : ℕ) (f g : ℕ → ℕ) → DigitsBelow 255 m f → DigitsBelow 255 m g → bit_and (num m f) (num m g) ≡ num m (λ k. bit_and (f k) (g k))
num-and = num_op bit_and refl and_block

pub num-or : (m : ℕ) (f g : ℕ → ℕ) → DigitsBelow 255 m f → DigitsBelow 255 m g → bit_or (num m f) (num m g) ≡ num m (λ k. bit_or (f k) (g k))
num-or = num_op bit_or refl or_block

-- ---- the product with 0x0101..: the sums of the bytes up to each

one_top : (m : ℕ) → num (suc m) (λ k. 1) ≡ num m (λ k. 1) + 2 ^ (8 * m)
unfolding num
one_top zero = refl
one_top (suc m) = omega (arith, one_top m, pow8 m)

-- what is carried out past byte m
carry : ℕ → (ℕ → ℕ) → ℕ
carry zero f = 0
carry (suc m) f = carry m (up f) + num m (up f)

sums : (m : ℕ) (f : ℕ → ℕ) → num m f * num m (λ k. 1) ≡ carry m f * 2 ^ (8 * m) + num m (λ k. sum_below f (suc k))
unfolding num sum_below carry
sums zero f = refl
sums (suc m) f =
    let N : ℕ = num m (up f) in
    let L : ℕ = num m (λ k. 1) in
    let B : ℕ = 2 ^ (8 * m) in
    let q : ℕ = carry m (up f) in
    let G : ℕ = num m (λ k. sum_below (up f) (suc k)) in
    let K : ℕ = L * 2 ^ 8 + 1 in
    let ih : N * L ≡ q * B + G = sums m (up f) in
    let top : K ≡ L + B = one_top m in
    let e₁ : (N * 2 ^ 8 + f 0) * K ≡ N * K * 2 ^ 8 + f 0 * K = add-mul (N * 2 ^ 8) (f 0) K ∙ ap (λ (y : ℕ). y + f 0 * K) (mul_right_comm N (2 ^ 8) K) in
    let e₂ : N * K ≡ N * L + N * B = ap (λ (y : ℕ). N * y) top ∙ mul-add N L B in
    let e₃ : f 0 * K ≡ f 0 * L * 2 ^ 8 + f 0 = mul-add (f 0) (L * 2 ^ 8) 1 ∙ ap₂ (λ (y z : ℕ). y + z) (sym (mul_assoc (f 0) L (2 ^ 8))) (mul-one (f 0)) in
    let e₄ : (q + N) * 2 ^ (8 * suc m) ≡ q * B * 2 ^ 8 + N * B * 2 ^ 8 =
    ap (λ (y : ℕ). (q + N) * y) (pow8 m) ∙ sym (mul_assoc (q + N) B (2 ^ 8)) ∙ ap (λ (y : ℕ). y * 2 ^ 8) (add-mul q N B) ∙ add-mul (q * B) (N * B) (2 ^ 8) in
    let e₅ : num m (λ k. f 0 + sum_below (up f) (suc k)) ≡ f 0 * L + G =
    sym (num-add m (λ k. f 0) (λ k. sum_below (up f) (suc k)))
    ∙ ap (λ (y : ℕ). y + G) (num-same m (f 0)) in
    omega arith

pub product : (m : ℕ) (f : ℕ → ℕ) → DigitsBelow 255 m (λ k. sum_below f (suc k)) → num m f * num m (λ k. 1) % 2 ^ (8 * m) ≡ num m (λ k. sum_below f (suc k))
product m f h = ap (λ (y : ℕ). y % 2 ^ (8 * m)) (sums m f) ∙ digits_mod (carry m f) (num-lt m (λ k. sum_below f (suc k)) h)
