-- One step of a walk by odd bits (02, T-04).
use Rattle.std.specs.Prelude.{ℕ, ◌+◌}
use Rattle.word.specs.Places.{pack}
use Rattle.word.specs.Words.{pair_bit}

-- the w bits from `place` up of two neighbouring words of w bits, lo below hi
unfoldable pub stepped : ℕ → ℕ → ℕ → ℕ → ℕ
stepped w lo hi place = pack w (λ j. pair_bit w lo hi (place + j))
