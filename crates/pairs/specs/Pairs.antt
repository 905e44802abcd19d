-- What a set operation makes of two words, and of two lists of words.
use Rattle.std.specs.Prelude.{ℕ, ◌+◌, ◌-◌, ◌*◌, ◌/◌, min, max, Bool, not, ◌&&◌, ◌||◌, List, length, get_or, eqb}
use Rattle.word.specs.Sets.{xorb, least_from}
use Rattle.word.specs.Places.{bit, pack, tab_from}
use Rattle.pairs.specs.declared.SetOp.{SetOp}
use Rattle.pairs.specs.declared.SetOp.TheVariants.{And, AndNot, Or, Xor}

-- the truth table of an operation: a number is in the result by whether it is in the first set and in the second
abbrev pub table_of : SetOp → Bool → Bool → Bool
table_of And p q = p && q
table_of AndNot p q = p && not q
table_of Or p q = p || q
table_of Xor p q = xorb p q

-- the operation at every place of two words
unfoldable pub word_by : SetOp → ℕ → ℕ → ℕ
unfolding pack
word_by op x y = pack 64 (λ j. table_of op (bit x j) (bit y j))

-- the words that it makes of two lists, as many as the longer has; the shorter reads as 0 past its end
unfoldable pub words_by : SetOp → List ℕ → List ℕ → List ℕ
unfolding tab_from word_by
words_by op xs ys = tab_from 0 (max (length xs) (length ys)) (λ k. word_by op (get_or xs k 0) (get_or ys k 0))

-- the words past which it makes only 0, of lists of n words and of m
abbrev pub end_by : SetOp → ℕ → ℕ → ℕ
end_by And n m = min n m
end_by AndNot n m = n
end_by Or n m = max n m
end_by Xor n m = max n m

-- the first word from k on that is not 0; where there is none, k or the end, whichever is more
unfoldable pub nonzero_from : List ℕ → ℕ → ℕ
nonzero_from ws k = least_from (λ j. not (eqb (get_or ws j 0) 0)) k (length ws - k)

-- k, and behind it the whole eights of words before that word and below e
unfoldable pub zero_eights : List ℕ → ℕ → ℕ → ℕ
zero_eights ws e k = k + 8 * ((min (nonzero_from ws k) e - k) / 8)
