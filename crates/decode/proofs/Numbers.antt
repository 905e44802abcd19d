-- Numbers by their bytes: a list cut in two, and one byte more.
use Prim.Native.Nat.{ℕ, ◌+◌, ◌*◌, ◌^◌, ◌≤◌, ◌<◌}
use mathlib.Core.Path.{◌≡◌, refl, sym, ap, ap₂, ◌∙◌, subst}
use mathlib.Core.List.{List, [], ◌∷◌, ◌++◌}
use native.Mathlib.Omega.{arith}
use lib.ListN.{length, get_or, take, drop, length-append, take-append-drop}
use native.Mathlib.Numerals.{add-one}
use lib.Seq.{take-suc}
use lib.Pow.{pow-add}
use Rattle.sheet.specs.Bytes.{number}

pub number_append : (p q : List ℕ) → number (p ++ q) ≡ number p * 256 ^ length q + number q
unfolding number
number_append [] q = omega arith
number_append (b ∷ p) q = rw (number_append p q, length-append p q, pow-add 256 (length p) (length q)) (omega arith)

-- a list cut in two
pub number_cut : (k : ℕ) (p : List ℕ) → number p ≡ number (take k p) * 256 ^ length (drop k p) + number (drop k p)
number_cut k p = ap number (sym (take-append-drop k p)) ∙ number_append (take k p) (drop k p)

-- one byte more
pub number_more : (l : List ℕ) (j : ℕ) → j < length l → number (take (j + 1) l) ≡ number (take j l) * 256 + get_or l j 0
unfolding number
number_more l j h =
    ap (λ (k : ℕ). number (take k l)) (add-one j) ∙ ap number (take-suc l j 0 h) ∙ number_append (take j l) (get_or l j 0 ∷ [])
    ∙ omega arith

-- ---- one byte more to a number below 256 ^ i

pub fits_more : (x b i : ℕ) → x < 256 ^ i → b < 256 → x * 256 + b < 256 ^ (i + 1)
fits_more x b i h k = subst (λ (y : ℕ). x * 256 + b < y) (sym (pow-add 256 i 1)) (omega arith)

-- i bytes are read
pub record ReadUpTo (bytes : List ℕ) (i x : ℕ) : Type 0 where
  pub inside : i ≤ length bytes
  pub is : x ≡ number (take i bytes)
  pub small : x < 256 ^ i

pub read_none : (bytes : List ℕ) → ReadUpTo bytes 0 0
unfolding number
read_none bytes = record { inside = omega arith; is = refl; small = omega arith }

pub read_more : (bytes : List ℕ) (i x b : ℕ) → ReadUpTo bytes i x → i < length bytes → b ≡ get_or bytes i 0 → b < 256 → ReadUpTo bytes (i + 1) (x * 256 + b)
read_more bytes i x b r h e k = record {
  inside = omega arith;
  is = ap₂ (λ (y z : ℕ). y * 256 + z) r.is e ∙ sym (number_more bytes i h);
  small = fits_more x b i r.small k;
}
