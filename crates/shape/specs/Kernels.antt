-- What the private functions of this crate make of words.
use Rattle.std.specs.Prelude.{ℕ, ◌+◌, ◌*◌, ◌^◌, ◌≤◌, ◌<◌, ◌≡◌, ◌&&◌, List, length, get_or, leb, ltb}
use Rattle.word.specs.Sets.{xorb}
use Rattle.word.specs.Places.{bit}

-- the bits from i on, below end, are flipped, and words that have none are as they were
pub record Flipped (i end : ℕ) (ws ws' : List ℕ) : Type 0 where
  pub long : length ws' ≡ length ws
  pub fits : (k : ℕ) → get_or ws k 0 < 2 ^ 64 → get_or ws' k 0 < 2 ^ 64
  pub bits : (k j : ℕ) → j < 64 → bit (get_or ws' k 0) j ≡ xorb (bit (get_or ws k 0) j) (leb i (64 * k + j) && ltb (64 * k + j) end)
  pub above : (k : ℕ) → end ≤ 64 * k → get_or ws' k 0 ≡ get_or ws k 0
