-- What private functions of the crates above share, on words.
use Rattle.std.specs.Prelude.{ℕ, ◌≤◌, ◌<◌, ◌≡◌, List, ◌⊎◌, length, get_or}
use Rattle.storage.specs.Stores.{Bits, view}

-- the bitmap of all words of a list
unfoldable pub all_words : List ℕ → Bits
unfolding view
all_words ws = view ws (length ws)

-- the words from a on, below e, are new, the others are as they were
pub record Put (new : ℕ → ℕ) (a e : ℕ) (ws ws' : List ℕ) : Type 0 where
  pub long : length ws' ≡ length ws
  pub fresh : (k : ℕ) → a ≤ k → k < e → get_or ws' k 0 ≡ new k
  pub others : (k : ℕ) → (k < a) ⊎ (e ≤ k) → get_or ws' k 0 ≡ get_or ws k 0
