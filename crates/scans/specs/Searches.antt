-- Searches within the words in use, on sets.
use Rattle.std.specs.Prelude.{ℕ, ◌-◌, ◌*◌, not, eqb, Ok, Some, None}
use Rattle.word.specs.Sets.{choose, least_from, top_below}
use Rattle.storage.specs.Stores.{Bits}
use Rattle.storage.specs.Refusals.{Found}

-- the greatest member
unfoldable pub last_set : Bits → Found
last_set b = let t = top_below b.members (64 * b.count) in choose (eqb t 0) (Ok None) (Ok (Some (t - 1)))

-- the least number from i on that is no member; past the length that is i
unfoldable pub next_clear : Bits → ℕ → ℕ
next_clear b i = least_from (λ p. not (b.members p)) i (64 * b.count - i)
