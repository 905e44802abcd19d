-- The calls of bits.rs, on sets: n words are in use, and the count stays.
use Rattle.std.specs.Prelude.{ℕ, suc, ◌+◌, ◌-◌, ◌*◌, not, ◌&&◌, ltb, eqb}
use Rattle.word.specs.Sets.{choose, xorb, count_below, nth}
use Rattle.storage.specs.Stores.{Bits, refused, done, Op, size, found_below}
use Rattle.storage.specs.declared.Refusal.TheVariants.{PastLength}
use Rattle.storage.specs.Refusals.{Found}

-- i flips; 5 past the length
unfoldable pub toggling_inside : ℕ → Op
toggling_inside i c b =
    let flipped : Bits = record { members = λ j. xorb (b.members j) (eqb j i); count = b.count } in
    choose (ltb i (64 * b.count)) (done flipped) (refused PastLength)

-- every number below the length flips
unfoldable pub inverting : Op
inverting c b = done (record { members = λ i. ltb i (64 * b.count) && not (b.members i); count = b.count })

-- i goes to length - 1 - i
unfoldable pub reversing : Op
reversing c b = done (record { members = λ i. ltb i (64 * b.count) && b.members (64 * b.count - suc i); count = b.count })

-- the numbers below the length that are no members
unfoldable pub clear_size : Bits → ℕ
clear_size b = 64 * b.count - size b

-- the members among the k numbers from i on
unfoldable pub count_region : ℕ → ℕ → Bits → ℕ
count_region i k b = count_below (λ j. b.members (i + j)) k

-- the members below i
unfoldable pub rank_of : ℕ → Bits → ℕ
rank_of i b = count_below b.members i

-- the member with exactly r members below it
unfoldable pub selected : ℕ → Bits → Found
selected r b = found_below (64 * b.count) (nth b.members r (64 * b.count) (64 * b.count))
