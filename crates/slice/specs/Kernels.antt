-- What a private function of this crate makes of a word.
use Rattle.std.specs.Prelude.{ℕ}
use Rattle.word.specs.Sets.{choose}
use Rattle.word.specs.Places.{bit, pack}

-- the word with x's digits at the places of the mask
unfoldable pub overlaid : ℕ → ℕ → ℕ → ℕ
overlaid old x mask = pack 64 (λ j. choose (bit mask j) (bit x j) (bit old j))
