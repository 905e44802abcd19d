-- What the private functions of this crate make of words.
use Rattle.std.specs.Prelude.{ℕ, suc, ◌+◌, ◌*◌, ◌/◌, ◌%◌, ◌^◌, ◌≤◌, ◌<◌, ◌≡◌, not, ◌&&◌, ◌||◌, List, length, get_or, take, eqb}
use Rattle.word.specs.Sets.{choose}
use Rattle.word.specs.Places.{bit}
use Rattle.arch.specs.Scans.{nonzero_len}
use Rattle.storage.specs.Stores.{Bits, done, Op}
use Rattle.bitmaps.specs.Bitmaps.{is_listed, reach_of, tidied}

-- the listed bits are set, and words that have none are as they were
pub record SetsListed (ws is ws' : List ℕ) : Type 0 where
  pub long : length ws' ≡ length ws
  pub fits : (k : ℕ) → get_or ws k 0 < 2 ^ 64 → get_or ws' k 0 < 2 ^ 64
  pub bits : (k j : ℕ) → j < 64 → bit (get_or ws' k 0) j ≡ bit (get_or ws k 0) j || is_listed is (64 * k + j)
  pub above : (k : ℕ) → reach_of is ≤ k → get_or ws' k 0 ≡ get_or ws k 0

-- the trimmed count where word k is the last of n and is 0
unfoldable pub tidy_count : List ℕ → ℕ → ℕ → ℕ
tidy_count ws n k = choose (eqb (suc k) n && eqb (get_or ws k 0) 0) (nonzero_len (take n ws)) n

-- of the word of bit i the places of the mask stay, and it is tidied
abbrev pub masked : ℕ → ℕ → Bits → Bits
masked i mask b = record { members = λ j. b.members j && (not (eqb (j / 64) (i / 64)) || bit mask (j % 64)); count = b.count }

unfoldable pub masking : ℕ → ℕ → Op
unfolding tidied
masking i mask c b = done (tidied (i / 64) (masked i mask b))
