-- A product modulo a power of two, from the halves of its factors: with it the check tells a product by halves that is right from one that is not.
use Rattle.std.proofs.Common.{◌≡◌, ℕ, ◌+◌, ◌*◌, ◌/◌, ◌%◌, ◌^◌, sym, ap, ◌∙◌, mul_assoc, add-mul, div-add-mod', mul-add, mul_right_comm, arith}
use lib.Pow.{split}
use lib.Bits.{bit_and, and_mask}
use Rattle.word.specs.Words.{low_product}
use native.Mathlib.Nat.{mod-add-mod, add-mod-mod, mul-add-mod_self_right, mul-mul-mul_comm}

-- a factor may be taken modulo m first
mul_mod_first : (n k m : ℕ) → (n % m * k) % m ≡ (n * k) % m
mul_mod_first n k m =
    sym (mul-add-mod_self_right (n / m * k) m (n % m * k))
    ∙ ap (λ (x : ℕ). x % m)
    (ap (λ (x : ℕ). x + n % m * k) (mul_right_comm (n / m) k m)
    ∙ sym (add-mul (n / m * m) (n % m) k)
    ∙ ap (λ (x : ℕ). x * k) (div-add-mod' n m))

whole : (p x₁ x₀ y₁ y₀ : ℕ) → (x₁ * p + x₀) * (y₁ * p + y₀) ≡ x₁ * y₁ * (p * p) + ((x₁ * y₀ + x₀ * y₁) * p + x₀ * y₀)
whole p x₁ x₀ y₁ y₀ =
    omega (
      arith,
      add-mul (x₁ * p) x₀ (y₁ * p + y₀),
      mul-add (x₁ * p) (y₁ * p) y₀,
      mul-add x₀ (y₁ * p) y₀,
      mul-mul-mul_comm x₁ p y₁ p,
      mul_right_comm x₁ p y₀,
      mul_assoc x₀ y₁ p,
      add-mul (x₁ * y₀) (x₀ * y₁) p,
    )

-- the upper halves' product falls out
pub halves : (p x₁ x₀ y₁ y₀ : ℕ) → ((x₁ * y₀ + x₀ * y₁) % (p * p) * p % (p * p) + x₀ * y₀) % (p * p) ≡ (x₁ * p + x₀) * (y₁ * p + y₀) % (p * p)
halves p x₁ x₀ y₁ y₀ =
    ap (λ (x : ℕ). (x + x₀ * y₀) % (p * p)) (mul_mod_first (x₁ * y₀ + x₀ * y₁) p (p * p))
    ∙ mod-add-mod ((x₁ * y₀ + x₀ * y₁) * p) (p * p) (x₀ * y₀)
    ∙ sym (mul-add-mod_self_right (x₁ * y₁) (p * p) ((x₁ * y₀ + x₀ * y₁) * p + x₀ * y₀))
    ∙ ap (λ (x : ℕ). x % (p * p)) (sym (whole p x₁ x₀ y₁ y₀))

-- what the halves of 32 bits make, with `lo` for how the low ones are taken
abbrev made_of : (lo : ℕ → ℕ) (x y : ℕ) → ℕ
made_of lo x y = ((x / 2 ^ 32 * lo y + lo x * (y / 2 ^ 32)) % 2 ^ 64 * 2 ^ 32 % 2 ^ 64 + lo x * lo y) % 2 ^ 64

law : (x y : ℕ) → made_of (λ n. bit_and n 4_294_967_295) x y ≡ (x * y) % 2 ^ 64
law x y =
    (λ i. made_of (λ (n : ℕ). and_mask n 32 i) x y)
    ∙ halves (2 ^ 32) (x / 2 ^ 32) (x % 2 ^ 32) (y / 2 ^ 32) (y % 2 ^ 32)
    ∙ (λ i. split x 32 i * split y 32 i % 2 ^ 64)

-- the same with each step modulo 2^64
pub by_halves : (x y : ℕ) → ((x / 2 ^ 32 * bit_and y 4_294_967_295 % 2 ^ 64 + bit_and x 4_294_967_295 * (y / 2 ^ 32) % 2 ^ 64) % 2 ^ 64 * 2 ^ 32 % 2 ^ 64
    + bit_and x 4_294_967_295 * bit_and y 4_294_967_295 % 2 ^ 64) % 2 ^ 64 ≡ low_product 64 x y
by_halves x y =
    let a = x / 2 ^ 32 * bit_and y 4_294_967_295 in
    let b = bit_and x 4_294_967_295 * (y / 2 ^ 32) in
    let d = bit_and x 4_294_967_295 * bit_and y 4_294_967_295 in
    ap (λ (z : ℕ). (z * 2 ^ 32 % 2 ^ 64 + d % 2 ^ 64) % 2 ^ 64) (mod-add-mod a (2 ^ 64) (b % 2 ^ 64) ∙ add-mod-mod a b (2 ^ 64))
    ∙ add-mod-mod ((a + b) % 2 ^ 64 * 2 ^ 32 % 2 ^ 64) d (2 ^ 64)
    ∙ law x y
