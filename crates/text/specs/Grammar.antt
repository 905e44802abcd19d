-- The grammar of list text (01, "List text"; 02, T-01): which texts are lists in a style, and of which ranges. Its bytes and its limit are typed from the papers.
use Rattle.std.specs.Prelude.{ℕ, ◌+◌, ◌-◌, ◌*◌, ◌≤◌, ◌≡◌, List, [], ◌∷◌, ◌++◌, ◌⊎◌}
use Rattle.style.specs.declared.Style.{Style}
use Rattle.text.specs.Lists.{Range}

abbrev pub Blank : ℕ → Type 0
Blank c = (c ≡ 32) ⊎ ((9 ≤ c) × (c ≤ 13))

-- the digit c - 48
abbrev pub Digit : ℕ → Type 0
Digit c = (48 ≤ c) × (c ≤ 57)

-- blanks, any number of them
pub data Blanks : List ℕ → Type 0 where
  nil : Blanks []
  cons : {c : ℕ} {t : List ℕ} → Blank c → Blanks t → Blanks (c ∷ t)

-- one or more digits, and the number that they mean
pub data Digits : List ℕ → ℕ → Type 0 where
  one : {c : ℕ} → Digit c → Digits (c ∷ []) (c - 48)
  more : {t : List ℕ} {v : ℕ} (c : ℕ) → Digits t v → Digit c → Digits (t ++ c ∷ []) (10 * v + (c - 48))

-- a number, blanks around it: the bit a, within the limit, plus the first number. So none is below the first, and none above the limit plus the first
pub data Numeral (y : Style) : List ℕ → ℕ → Type 0 where
  number : {u d w : List ℕ} {a : ℕ} → Blanks u → Digits d (a + y.first) → Blanks w → a ≤ 4_294_967_295 → Numeral y (u ++ d ++ w) a

-- a token: a number, or two at the joiner, the second not smaller
pub data Token (y : Style) : List ℕ → Range → Type 0 where
  single : {t : List ℕ} {a : ℕ} → Numeral y t a → Token y t (record { low = a; high = a })
  pair : {t u : List ℕ} {a b : ℕ} → Numeral y t a → Numeral y u b → a ≤ b → Token y (t ++ y.joiner ∷ u) (record { low = a; high = b })

-- a list: tokens with commas between them; after the last one a comma and blanks may stand
pub data Listed (y : Style) : List ℕ → List Range → Type 0 where
  last : {t : List ℕ} {r : Range} → Token y t r → Listed y t (r ∷ [])
  ended : {t u : List ℕ} {r : Range} → Token y t r → Blanks u → Listed y (t ++ 44 ∷ u) (r ∷ [])
  more : {t u : List ℕ} {r : Range} {rs : List Range} → Token y t r → Listed y u rs → Listed y (t ++ 44 ∷ u) (r ∷ rs)
