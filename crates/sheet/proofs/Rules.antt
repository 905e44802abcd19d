-- Bytes and their number.
use Prim.Native.Nat.{ℕ, zero, suc, ◌+◌, ◌*◌, ◌^◌, ◌/◌, ◌%◌, ◌<◌}
use mathlib.Core.Path.{◌≡◌, refl, sym, ap, ap₂, ◌∙◌, subst}
use mathlib.Core.List.{List, [], ◌∷◌}
use native.Mathlib.Omega.{arith}
use native.Mathlib.Nat.{mod-eq_of_lt, mul_comm, mul_assoc, add_comm, add-mul-div_right, pow-suc, one-le-pow}
use lib.ListN.{length, get_or}
use lib.Arith.{digits_lt, digits_div, mod-mul}
use lib.Pow.{pow-add}
use Rattle.sheet.specs.Bytes.{number, bytes}

pub length-bytes : (n x : ℕ) → length (bytes n x) ≡ n
unfolding bytes
length-bytes zero x = refl
length-bytes (suc n) x = ap suc (length-bytes n x)

pub number-mod : (n x : ℕ) → number (bytes n x) ≡ x % 256 ^ n
unfolding number bytes
number-mod zero x = omega arith
number-mod (suc n) x =
    rw (length-bytes n x, number-mod n x, pow-suc 256 n, mul_comm (256 ^ n) 256) (sym (mod-mul x (omega arith) (one-le-pow n 256 (omega arith))))

bytes_again : (n a x : ℕ) → bytes n (a * 256 ^ n + x) ≡ bytes n x
unfolding bytes
bytes_again zero a x = refl
bytes_again (suc n) a x = ap₂ (λ (b : ℕ) (l : List ℕ). b ∷ l) first (ap (bytes n) shifted ∙ bytes_again n (a * 256) x)
  where
    shifted : a * 256 ^ suc n + x ≡ a * 256 * 256 ^ n + x
    shifted = ap (λ (y : ℕ). y + x) (ap (λ (y : ℕ). a * y) (pow-suc 256 n ∙ mul_comm (256 ^ n) 256) ∙ sym (mul_assoc a 256 (256 ^ n)))

    first : (a * 256 ^ suc n + x) / 256 ^ n % 256 ≡ x / 256 ^ n % 256
    first =
        let y : ℕ = x / 256 ^ n in
        let e : (a * 256 ^ suc n + x) / 256 ^ n ≡ y + a * 256 =
        ap (λ (z : ℕ). z / 256 ^ n) (shifted ∙ add_comm (a * 256 * 256 ^ n) x) ∙ add-mul-div_right x (a * 256) (one-le-pow n 256 (omega arith)) in
        ap (λ (z : ℕ). z % 256) e ∙ low y a
      where
        low : (y a : ℕ) → (y + a * 256) % 256 ≡ y % 256
        low y a = omega arith

abbrev pub AllBytes : List ℕ → Type 0
AllBytes p = (i : ℕ) → get_or p i 0 < 256

pub number_fits : (p : List ℕ) → AllBytes p → number p < 256 ^ length p
unfolding number
number_fits [] h = omega arith
number_fits (b ∷ p) h =
    subst (λ (x : ℕ). b * 256 ^ length p + number p < x) (mul_comm 256 (256 ^ length p) ∙ sym (pow-suc 256 (length p)))
    (digits_lt (h 0) (number_fits p (λ i. h (suc i))))

pub bytes-number : (p : List ℕ) → AllBytes p → bytes (length p) (number p) ≡ p
unfolding number bytes
bytes-number [] h = refl
bytes-number (b ∷ p) h =
    ap₂ (λ (x : ℕ) (l : List ℕ). x ∷ l)
    (ap (λ (x : ℕ). x % 256) (digits_div b (number_fits p (λ i. h (suc i)))) ∙ mod-eq_of_lt (h 0))
    (bytes_again (length p) b (number p) ∙ bytes-number p (λ i. h (suc i)))

-- n bytes are 8 * n bits
pub byte_bits : (n : ℕ) → 256 ^ n ≡ 2 ^ (8 * n)
byte_bits zero = refl
byte_bits (suc n) =
    let e : 8 * n + 8 ≡ 8 * suc n = omega arith in
    pow-suc 256 n ∙ ap (λ (x : ℕ). x * 256) (byte_bits n) ∙ sym (pow-add 2 (8 * n) 8) ∙ ap (λ (m : ℕ). 2 ^ m) e

pub bytes_small : (n x : ℕ) → AllBytes (bytes n x)
unfolding bytes
bytes_small zero x i = omega arith
bytes_small (suc n) x zero = omega arith
bytes_small (suc n) x (suc i) = bytes_small n x i
