-- What the functions of word.rs make of a word, as a set of places below the width w.
use Rattle.std.specs.Prelude.{ℕ, suc, ◌+◌, ◌-◌, ◌*◌, ◌%◌, ◌^◌, Bool, not, ◌&&◌, ◌||◌, ltb, ◌==◌, nat_eq, nat_le, nat_lt}
use Rattle.word.specs.Sets.{choose, least_from}
use Rattle.word.specs.Places.{bit, pack}

-- every place of a word
abbrev pub all_ones : ℕ
all_ones = 0xffff_ffff_ffff_ffff

-- the places below n
unfoldable pub low_mask : ℕ → ℕ → ℕ
low_mask w n = pack w (λ i. ltb i n)

-- the place i alone
unfoldable pub single : ℕ → ℕ → ℕ
single w i = pack w (λ j. nat_eq j i)

-- the places of x, counted from the other end
unfoldable pub mirrored : ℕ → ℕ → ℕ
mirrored w x = pack w (λ i. bit x (w - suc i))

-- the places of x but the least
unfoldable pub without_least : ℕ → ℕ → ℕ
without_least w x = pack w (λ i. bit x i && not (i == least_from (bit x) 0 w))

-- the product's w low digits
abbrev pub low_product : ℕ → ℕ → ℕ → ℕ
low_product w x y = (x * y) % 2 ^ w

-- lo moved `down` places down, and hi moved `up` places up
unfoldable pub funneled : ℕ → ℕ → ℕ → ℕ → ℕ → ℕ
funneled w lo hi down up = pack w (λ j. bit lo (down + j) || (nat_le up j && bit hi (j - up)))

-- place i of two neighbouring words, lo below hi
unfoldable pub pair_bit : ℕ → ℕ → ℕ → ℕ → Bool
pair_bit w lo hi i = choose (nat_lt i w) (bit lo i) (bit hi (i - w))
