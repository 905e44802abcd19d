-- What the calls of bits.rs promise, for every number. Each is proved in proofs/Promises, `CallsExact` in proofs/Once.
use Rattle.std.specs.Prelude.{ℕ, suc, ◌+◌, ◌-◌, ◌*◌, ◌≤◌, ◌<◌, ◌≡◌, true, false, not, Ok}
use Rattle.word.specs.Sets.{Counted}
use Rattle.word.specs.Promises.{MovesWords}
use Rattle.storage.specs.Stores.{Bits}
use Rattle.storage.specs.Promises.{Hands, Finds, AmountCall, FoundCall, Meets, Never, MeetsExactly}
use Rattle.bitwise.specs.Bitwise.{toggling_inside, inverting, reversing, clear_size, count_region, rank_of, selected}

pub record Toggled (i : ℕ) (b s : Bits) : Type 0 where
  pub count : s.count ≡ b.count
  pub flipped : s.members i ≡ not (b.members i)
  pub others : (j : ℕ) → (j ≡ i → ⊥) → s.members j ≡ b.members j

-- `invert`
pub record Inverted (b s : Bits) : Type 0 where
  pub count : s.count ≡ b.count
  pub below : (i : ℕ) → i < 64 * b.count → s.members i ≡ not (b.members i)
  pub past : (i : ℕ) → 64 * b.count ≤ i → s.members i ≡ false

abbrev pub Inverts : Type 0
Inverts = Meets inverting (λ c. Inverted) Never

-- `toggle`: done below the length, 5 exactly from there on
abbrev pub TogglesInside : Type 0
TogglesInside = (i : ℕ) → Meets (toggling_inside i) (λ c b s. (i < 64 * b.count) × Toggled i b s) (λ c b k. (k ≡ 5) × (64 * b.count ≤ i))

-- `reverse`: the mirror of each number, over the whole length
pub record Reversed (b s : Bits) : Type 0 where
  pub count : s.count ≡ b.count
  pub mirror : (i j : ℕ) → i + j + 1 ≡ 64 * b.count → s.members i ≡ b.members j
  pub past : (i : ℕ) → 64 * b.count ≤ i → s.members i ≡ false

abbrev pub Reverses : Type 0
Reverses = Meets reversing (λ c. Reversed) Never

-- `invert_words`
abbrev pub InvertWordsMeans : Type 0
InvertWordsMeans = MovesWords (λ len old i. not (old i)) (λ len old new. (i : ℕ) → i < len → new i ≡ not (old i))

-- `reverse_words`
abbrev pub ReverseWordsMeans : Type 0
ReverseWordsMeans = MovesWords (λ len old i. old (len - suc i)) (λ len old new. (i j : ℕ) → i + j + 1 ≡ len → new i ≡ old j)

-- and each of the three is exact: done where there is a result as said, refused with 5 where its condition holds
pub record CallsExact : Type 0 where
  pub invert : MeetsExactly inverting (λ c. Inverted) Never
  pub toggle : (i : ℕ) → MeetsExactly (toggling_inside i) (λ c b s. (i < 64 * b.count) × Toggled i b s) (λ c b k. (k ≡ 5) × (64 * b.count ≤ i))
  pub reverse : MeetsExactly reversing (λ c. Reversed) Never

-- `count_clear_bits`: the numbers below the length that are no members
abbrev pub CountClearBitsMeans : Type 0
CountClearBitsMeans = AmountCall (λ s. Ok (clear_size s)) (λ b. Hands (Counted (λ i. not (b.members i)) (64 * b.count)))

-- `count_region`: the members among the k numbers from i on
abbrev pub CountRegionMeans : Type 0
CountRegionMeans = (i k : ℕ) → AmountCall (λ s. Ok (count_region i k s)) (λ b. Hands (Counted (λ j. b.members (i + j)) k))

-- `rank`: the members below i
abbrev pub RankMeans : Type 0
RankMeans = (i : ℕ) → AmountCall (λ s. Ok (rank_of i s)) (λ b. Hands (Counted b.members i))

-- a member with exactly r members below it; none only where there are at most r members
abbrev pub Selected : ℕ → Bits → ℕ → ℕ → ℕ → Type 0
Selected r b =
    Finds (λ p. (b.members p ≡ true) × Counted b.members p r)
    ((e : ℕ) → (v : ℕ) × Counted b.members e v × (v ≤ r))

-- `select`
abbrev pub SelectMeans : Type 0
SelectMeans = (r : ℕ) → FoundCall (selected r) (Selected r)
