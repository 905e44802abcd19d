-- What the kernels of arch.rs make of a list of words. Each is total: an empty list and a region that is not there have an answer.
use Rattle.std.specs.Prelude.{◌≡◌, ℕ, ◌*◌, ◌%◌, ◌^◌, ◌<◌, ◌≤◌, Bool, not, ◌&&◌, List, length, Option, Some, None, ◌==◌, nat_le, nat_lt, slice_index}
use Rattle.word.specs.Sets.{choose, count_below, least_from, top_below}
use Rattle.word.specs.Places.{member, tab_from, words_of}

-- the words from index a on, below e, are all x
pub record Alike (ws : List ℕ) (x a e : ℕ) : Type 0 where
  pub at : (k : ℕ) → a ≤ k → k < e → slice_index ws k ≡ x

-- the index of the first word other than x; the length if there is none
unfoldable pub first_other : ℕ → List ℕ → ℕ
first_other x ws = least_from (λ k. not (slice_index ws k == x)) 0 (length ws)

-- index k with its word, or nothing past the end
unfoldable pub word_found : List ℕ → ℕ → Option (ℕ × ℕ)
word_found ws k = choose (nat_lt k (length ws)) (Some (k, slice_index ws k)) None

-- of a word found its flag, 1, its index and the word itself; where nothing is found all three are 0
abbrev pub word_flag : Option (ℕ × ℕ) → ℕ
word_flag (Some (k, w)) = 1
word_flag None = 0

abbrev pub word_index : Option (ℕ × ℕ) → ℕ
word_index (Some (k, w)) = k
word_index None = 0

abbrev pub word_there : Option (ℕ × ℕ) → ℕ
word_there (Some (k, w)) = w
word_there None = 0

-- the length without trailing zero words
unfoldable pub nonzero_len : List ℕ → ℕ
nonzero_len ws = top_below (λ k. not (slice_index ws k == 0)) (length ws)

-- no word is other than 0
unfoldable pub is_zero : List ℕ → Bool
is_zero ws = nonzero_len ws == 0

-- the number of members; its 64 low digits, which is all of it below 2 ^ 58 words
unfoldable pub count_set : List ℕ → ℕ
count_set ws = count_below (member ws) (64 * length ws) % 2 ^ 64

-- the words from index a on, below e, become x; words past the end are not there
unfoldable pub filled_words : ℕ → ℕ → ℕ → List ℕ → List ℕ
unfolding tab_from
filled_words a e x ws = tab_from 0 (length ws) (λ k. choose (nat_le a k && nat_lt k e) x (slice_index ws k))

-- the numbers from `from` on, below `end`, all become members or none; numbers past the words' end are not there
unfoldable pub filled : ℕ → ℕ → Bool → List ℕ → List ℕ
unfolding words_of
filled from end v ws = words_of (λ i. choose (nat_le from i && nat_lt i end) v (member ws i)) (length ws)
