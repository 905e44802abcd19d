-- The calls of bitmap.rs, on sets and counts (01, "Words that enter and leave use").
use Rattle.std.specs.Prelude.{ℕ, suc, ◌+◌, ◌-◌, ◌/◌, ◌%◌, ◌^◌, max, Bool, false, not, ◌&&◌, ◌||◌, List, [], ◌∷◌, ltb, eqb}
use Rattle.word.specs.Sets.{choose}
use Rattle.word.specs.Places.{bit, word_of}
use Rattle.storage.specs.Stores.{Bits, refused, done, Op, within, up_to, flipped, in_region, passes, trimmed}
use Rattle.storage.specs.declared.Refusal.TheVariants.{WidthOver, IndexOver}

unfoldable pub trimming : Op
trimming c b = done (trimmed b)

unfoldable pub setting : ℕ → Op
setting i c b = within c (record { members = λ j. b.members j || eqb j i; count = max b.count (up_to i) })

-- i is no member
abbrev pub without : ℕ → Bits → Bits
without i b = record { members = λ j. b.members j && not (eqb j i); count = b.count }

unfoldable pub unsetting : ℕ → Op
unsetting i c b = done (without i b)

-- j is one of the listed numbers
unfoldable pub is_listed : List ℕ → ℕ → Bool
is_listed [] j = false
is_listed (i ∷ is) j = eqb j i || is_listed is j

-- the words up to those of all listed bits
unfoldable pub reach_of : List ℕ → ℕ
reach_of [] = 0
reach_of (i ∷ is) = max (up_to i) (reach_of is)

unfoldable pub setting_many : List ℕ → Op
setting_many is c b = within c (record { members = λ j. b.members j || is_listed is j; count = max b.count (reach_of is) })

-- the k numbers from i on become members, or none of them stays one
unfoldable pub setting_region : ℕ → Bool → ℕ → Op
setting_region i value k c b =
    let count = choose value (max b.count (up_to (i + k - 1))) b.count in
    let put = within c (record { members = λ p. choose (in_region i k p) value (b.members p); count = count }) in
    choose (eqb k 0) (done b) (choose (passes i k) (refused IndexOver) put)

-- the field's numbers become the digits of the value: a field of zeros clears what is there, another grows to the word of its last number
unfoldable pub setting_field : ℕ → ℕ → ℕ → Op
setting_field i value width c b =
    let count = choose (eqb (value % 2 ^ width) 0) b.count (max b.count (up_to (i + width - 1))) in
    let put = within c (record { members = λ p. choose (in_region i width p) (bit value (p - i)) (b.members p); count = count }) in
    choose (ltb 64 width) (refused WidthOver) (choose (eqb width 0) (done b) (choose (passes i width) (refused IndexOver) put))

-- where word k is the last and is 0, trailing zero words are dropped
unfoldable pub tidied : ℕ → Bits → Bits
tidied k s = choose (eqb (suc k) s.count && eqb (word_of s.members k) 0) (trimmed s) s

-- the other 63 numbers of i's word go
abbrev pub alone : ℕ → Bits → Bits
alone i b = record { members = λ j. b.members j && (not (eqb (j / 64) (i / 64)) || eqb j i); count = b.count }

unfoldable pub keeping_bit : ℕ → Op
unfolding tidied
keeping_bit i c b = done (tidied (i / 64) (alone i b))

unfoldable pub dropping_bit : ℕ → Op
unfolding tidied
dropping_bit i c b = done (tidied (i / 64) (without i b))

unfoldable pub flipping_bit : ℕ → Op
unfolding tidied
flipping_bit i c b = within c (tidied (i / 64) (flipped i b))
