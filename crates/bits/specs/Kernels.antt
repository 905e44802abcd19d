-- What the private functions of this crate answer.
use Rattle.std.specs.Prelude.{ℕ, ◌+◌, ◌*◌, ◌≤◌, ◌<◌, ◌≡◌, List, length, get_or}
use Rattle.word.specs.Sets.{count_below}
use Rattle.word.specs.Places.{bit, member}

-- what is passed of a rank r: `left` of it remains after the words before index `at`
pub record Passing (ws : List ℕ) (r at left : ℕ) : Type 0 where
  pub inside : at ≤ length ws
  pub passed : count_below (member ws) (64 * at) + left ≡ r

-- and word `at` has more members than remain
pub record Meets (ws : List ℕ) (r at left : ℕ) : Type 0 where
  pub inside : at < length ws
  pub passing : Passing ws r at left
  pub more : left < count_below (bit (get_or ws at 0)) 64
