-- A number in two parts: its bytes.
use Prim.Native.Nat.{ℕ, zero, suc, ◌+◌, ◌*◌, ◌^◌, ◌/◌, ◌%◌, ◌-◌, max, ◌≤◌, ◌<◌}
use mathlib.Core.Path.{◌≡◌, refl, sym, ap, ap₂, ◌∙◌}
use mathlib.Core.List.{List, ◌∷◌, ◌++◌}
use native.Mathlib.Omega.{arith}
use native.Mathlib.Nat.{suc-add, pow-suc, mul_assoc, div-div-eq-div-mul}
use native.Mathlib.Decide.{dec_le}
use lib.Seq.{sets}
use Rattle.sheet.specs.Bytes.{bytes}
use Rattle.sheet.proofs.Rules.{length-bytes}
use Rattle.sheet.proofs.Tables.{Below, below_at}
use Rattle.writer.proofs.Puts.{sets_append}

module _ (h l : ℕ) where
  abbrev Low : ℕ → Type 0
  Low k = (h * 2 ^ 64 + l) / 256 ^ k % 256 ≡ l / 256 ^ k % 256

  each_low : Below Low 8
  each_low = ((((((((tt, omega arith), omega arith), omega arith), omega arith), omega arith), omega arith), omega arith), omega arith)

  bytes_low : (n : ℕ) → n ≤ 8 → bytes n (h * 2 ^ 64 + l) ≡ bytes n l
  unfolding bytes
  bytes_low zero b = refl
  bytes_low (suc n) b = ap₂ (λ (x : ℕ) (r : List ℕ). x ∷ r) (below_at Low 8 n each_low (omega arith)) (bytes_low n (omega arith))

  power : (m : ℕ) → 256 ^ (m + 8) ≡ 2 ^ 64 * 256 ^ m
  power zero = refl
  power (suc m) =
      ap (λ (x : ℕ). 256 ^ x) (suc-add m 8) ∙ pow-suc 256 (m + 8) ∙ ap (λ (x : ℕ). x * 256) (power m) ∙ mul_assoc (2 ^ 64) (256 ^ m) 256 ∙ ap (λ (x : ℕ). 2 ^ 64 * x) (sym (pow-suc 256 m))

  module _ (s : l < 2 ^ 64) where
    quotient : (m : ℕ) → (h * 2 ^ 64 + l) / 256 ^ (m + 8) ≡ h / 256 ^ m
    quotient m =
        let q : (h * 2 ^ 64 + l) / 2 ^ 64 ≡ h = omega arith in
        ap (λ (x : ℕ). (h * 2 ^ 64 + l) / x) (power m) ∙ sym (div-div-eq-div-mul (h * 2 ^ 64 + l) (2 ^ 64) (256 ^ m)) ∙ ap (λ (x : ℕ). x / 256 ^ m) q

    bytes_high : (m : ℕ) → bytes (m + 8) (h * 2 ^ 64 + l) ≡ bytes m h ++ bytes 8 l
    unfolding bytes
    bytes_high zero = bytes_low 8 (omega arith)
    bytes_high (suc m) =
        ap (λ (n : ℕ). bytes n (h * 2 ^ 64 + l)) (suc-add m 8) ∙ ap₂ (λ (x : ℕ) (r : List ℕ). x % 256 ∷ r) (quotient m) (bytes_high m)

    bytes_parts : (n : ℕ) → bytes n (h * 2 ^ 64 + l) ≡ bytes (max n 8 - 8) h ++ bytes (n - (max n 8 - 8)) l
    unfolding bytes
    bytes_parts n = go (dec_le n 8)
      where
        go : Dec (n ≤ 8) → bytes n (h * 2 ^ 64 + l) ≡ bytes (max n 8 - 8) h ++ bytes (n - (max n 8 - 8)) l
        go (yes b) =
            let e : max n 8 - 8 ≡ 0 = omega arith in
            let d : n - 0 ≡ n = omega arith in
            rw (e, d) (bytes_low n b)
        go (no b) =
            let e : max n 8 - 8 ≡ n - 8 = omega arith in
            let d : n - (n - 8) ≡ 8 = omega arith in
            let s : n ≡ n - 8 + 8 = omega arith in
            rw (e, d) (ap (λ (k : ℕ). bytes k (h * 2 ^ 64 + l)) s ∙ bytes_high (n - 8))

    -- the high part, m being the larger of n and 8, then the low one
    pub put_parts : (b : List ℕ) (at n m : ℕ) (b₁ b₂ : List ℕ) → m ≡ max n 8 → b₁ ≡ sets b at (bytes (m - 8) h)
        → b₂ ≡ sets b₁ (at + (m - 8)) (bytes (n - (m - 8)) l) → b₂ ≡ sets b at (bytes n (h * 2 ^ 64 + l))
    put_parts b at n m b₁ b₂ e p q =
        let u : List ℕ = bytes (m - 8) h in
        let v : List ℕ = bytes (n - (m - 8)) l in
        q
        ∙ ap₂ (λ (c : List ℕ) (k : ℕ). sets c (at + k) v) p (sym (length-bytes (m - 8) h))
        ∙ sym (sets_append u v b at)
        ∙ ap (λ (k : ℕ). sets b at (bytes (k - 8) h ++ bytes (n - (k - 8)) l)) e
        ∙ ap (sets b at) (sym (bytes_parts n))
