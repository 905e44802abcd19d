-- Numbers as sets of places, and words as sets of numbers (01: bit i is bit i mod 64 of word i / 64, lowest bit first).
use Rattle.std.specs.Prelude.{ℕ, zero, suc, ◌+◌, ◌*◌, ◌/◌, ◌%◌, ◌^◌, Bool, true, false, List, [], ◌∷◌, slice_index}
use Rattle.word.specs.Sets.{val}

-- a digit as a truth value
abbrev pub is_one : ℕ → Bool
is_one zero = false
is_one (suc d) = true

-- binary digit i of x is 1
unfoldable pub bit : ℕ → ℕ → Bool
bit x i = is_one (x / 2 ^ i % 2)

-- the number below 2 ^ w whose binary digit i is p i
unfoldable pub pack : ℕ → (ℕ → Bool) → ℕ
pack zero p = 0
pack (suc w) p = val (p w) * 2 ^ w + pack w p

-- word k of the set s
unfoldable pub word_of : (ℕ → Bool) → ℕ → ℕ
word_of s k = pack 64 (λ j. s (64 * k + j))

-- i is in the set that the words hold; there is no number past their end
unfoldable pub member : List ℕ → ℕ → Bool
member ws i = bit (slice_index ws (i / 64)) (i % 64)

-- f i, f (i + 1), .., n of them
unfoldable pub tab_from : ℕ → ℕ → (ℕ → ℕ) → List ℕ
tab_from i zero f = []
tab_from i (suc n) f = f i ∷ tab_from (suc i) n f

-- the first n words of the set s
unfoldable pub words_of : (ℕ → Bool) → ℕ → List ℕ
unfolding tab_from
words_of s n = tab_from 0 n (word_of s)
