-- What the private functions of this crate make of a set.
use Rattle.std.specs.Prelude.{ℕ, ◌+◌, ◌-◌, Bool, ◌&&◌, ltb, leb}
use Rattle.word.specs.Sets.{choose}

-- the members from p on moved k up
unfoldable pub gap_opened : ℕ → ℕ → (ℕ → Bool) → ℕ → Bool
gap_opened p k s i = choose (ltb i p) (s i) (leb (p + k) i && s (i - k))

-- the members from p + k on moved k down, over those from p on
unfoldable pub gap_closed : ℕ → ℕ → (ℕ → Bool) → ℕ → Bool
gap_closed p k s i = choose (ltb i p) (s i) (s (i + k))
