-- What the private functions of this crate make of a word: a fill by its places.
use Rattle.std.specs.Prelude.{ℕ, ◌+◌, ◌*◌, Bool, ◌&&◌, nat_le, nat_lt}
use Rattle.word.specs.Sets.{choose}
use Rattle.word.specs.Places.{bit, pack}

-- the places of a word that lie from `from` on, below `end`, where the word is word k
unfoldable pub places_in : ℕ → ℕ → ℕ → ℕ
places_in from end k = pack 64 (λ j. nat_le from (64 * k + j) && nat_lt (64 * k + j) end)

-- the word x with v at the places of the mask
unfoldable pub filled_places : ℕ → ℕ → Bool → ℕ
filled_places x mask v = pack 64 (λ j. choose (bit mask j) v (bit x j))
