-- The grammar of list text as document 01 has it, for the plain style: numbers are bits, and a hyphen joins.
use Rattle.std.specs.Prelude.{ℕ, ◌≤◌, List, [], ◌∷◌, ◌++◌}
use Rattle.text.specs.Lists.{Range}
use Rattle.text.specs.Grammar.{Blanks, Digits}

-- a number: digits within the limit, blanks around them
pub data Numeral : List ℕ → ℕ → Type 0 where
  number : {u d w : List ℕ} {v : ℕ} → Blanks u → Digits d v → Blanks w → v ≤ 4_294_967_295 → Numeral (u ++ d ++ w) v

-- a token: a number, or two at a hyphen, the second not smaller
pub data Token : List ℕ → Range → Type 0 where
  single : {t : List ℕ} {a : ℕ} → Numeral t a → Token t (record { low = a; high = a })
  pair : {t u : List ℕ} {a b : ℕ} → Numeral t a → Numeral u b → a ≤ b → Token (t ++ 45 ∷ u) (record { low = a; high = b })

-- a list: tokens with commas between them; after the last one a comma and blanks may stand
pub data Listed : List ℕ → List Range → Type 0 where
  last : {t : List ℕ} {r : Range} → Token t r → Listed t (r ∷ [])
  ended : {t u : List ℕ} {r : Range} → Token t r → Blanks u → Listed (t ++ 44 ∷ u) (r ∷ [])
  more : {t u : List ℕ} {r : Range} {rs : List Range} → Token t r → Listed u rs → Listed (t ++ 44 ∷ u) (r ∷ rs)
