-- List text (01, "List text"): its bytes, and the set that its ranges make.
use Rattle.std.specs.Prelude.{ℕ, ◌+◌, ◌*◌, max, Bool, true, false, ◌&&◌, ◌||◌, List, [], ◌∷◌, ltb, leb, eqb}

-- the byte between two tokens
abbrev pub comma : ℕ
comma = 44

-- the blank that is printed
abbrev pub space : ℕ
space = 32

-- the digit 0
abbrev pub zero_digit : ℕ
zero_digit = 48

-- the largest bit that a list may hold
abbrev pub list_limit : ℕ
list_limit = 4_294_967_295

-- what is trimmed: bytes 9 to 13 and 32
abbrev pub blank : ℕ → Bool
blank c = eqb c 32 || (leb 9 c && leb c 13)

abbrev pub digit : ℕ → Bool
digit c = leb zero_digit c && leb c 57

-- the number v with one digit d more
abbrev pub with_digit : ℕ → ℕ → ℕ
with_digit v d = v * 10 + d

-- no byte is 128 or more
unfoldable pub plain : List ℕ → Bool
plain [] = true
plain (c ∷ t) = ltb c 128 && plain t

-- the numbers from low to high
pub record Range : Type 0 where
  pub low : ℕ
  pub high : ℕ

abbrev pub range : ℕ → ℕ → Range
range a b = record { low = a; high = b }

-- i lies in one of the ranges
unfoldable pub covers : List Range → ℕ → Bool
covers [] i = false
covers (r ∷ rs) i = (leb r.low i && leb i r.high) || covers rs i

-- the largest number of the ranges
unfoldable pub highest : List Range → ℕ
highest [] = 0
highest (r ∷ rs) = max r.high (highest rs)
