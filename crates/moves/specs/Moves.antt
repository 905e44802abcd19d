-- What the moves of whole words make of a list.
use Rattle.std.specs.Prelude.{ℕ, ◌-◌, List, ◌++◌, length, take, drop}

-- each word `whole` words up, as far as there is room; the lowest stay as they were
unfoldable pub up_words : ℕ → List ℕ → List ℕ
up_words whole ws = take whole ws ++ take (length ws - whole) ws

-- each word `whole` words down, as far as there is room; the highest stay as they were
unfoldable pub down_words : ℕ → List ℕ → List ℕ
down_words whole ws = drop whole ws ++ drop (length ws - whole) ws

-- the last m words before the others
unfoldable pub turned_words : ℕ → List ℕ → List ℕ
turned_words m ws = drop (length ws - m) ws ++ take (length ws - m) ws
