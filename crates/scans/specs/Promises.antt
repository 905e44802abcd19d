-- What the definitions promise, in words of their own. Each is proved in proofs/Promises.
use Rattle.std.specs.Prelude.{ℕ, suc, ◌*◌, ◌≤◌, ◌<◌, ◌≡◌, true, false, Ok}
use Rattle.word.specs.Sets.{Counted}
use Rattle.storage.specs.Stores.{Bits, Bounded, size, next_from}
use Rattle.storage.specs.Promises.{Hands, Finds, NextMember, AmountCall, FoundCall}
use Rattle.scans.specs.Searches.{last_set, next_clear}

-- `next_set`, `first_set`: the least member from i on, and the least
abbrev pub NextSetMeans : Type 0
NextSetMeans = (i : ℕ) → FoundCall (λ s. next_from s i) (λ b. NextMember b.members i)

abbrev pub FirstSetMeans : Type 0
FirstSetMeans = FoundCall (λ s. next_from s 0) (λ b. NextMember b.members 0)

-- a member with none above it; nothing only where there is none
abbrev pub LastMember : Bits → ℕ → ℕ → ℕ → Type 0
LastMember b = Finds (λ p. (b.members p ≡ true) × ((q : ℕ) → p < q → b.members q ≡ false)) ((q : ℕ) → b.members q ≡ false)

-- `last_set`
abbrev pub LastSetMeans : Type 0
LastSetMeans = FoundCall last_set LastMember

-- no member, at least i, every number between being one; from the length on it is i
pub record NextOther (b : Bits) (i p : ℕ) : Type 0 where
  pub from : i ≤ p
  pub other : b.members p ≡ false
  pub between : (q : ℕ) → i ≤ q → q < p → b.members q ≡ true
  pub past : 64 * b.count ≤ i → p ≡ i

-- `next_clear`, `first_clear`
abbrev pub NextClearMeans : Type 0
NextClearMeans = (i : ℕ) → AmountCall (λ s. Ok (next_clear s i)) (λ b. Hands (NextOther b i))

abbrev pub FirstClearMeans : Type 0
FirstClearMeans = AmountCall (λ s. Ok (next_clear s 0)) (λ b. Hands (NextOther b 0))

-- v members, at the length and from there on
abbrev pub AllCounted : Bits → ℕ → Type 0
AllCounted b v = (e : ℕ) → 64 * b.count ≤ e → Counted b.members e v

-- `count_set_bits`
abbrev pub CountSetBitsMeans : Type 0
CountSetBitsMeans = AmountCall (λ s. Ok (size s)) (λ b. Hands (AllCounted b))

-- the size is 0 exactly where there is no member, and one more with each number that becomes one
pub record CountsMembers : Type 0 where
  pub empty : (b : Bits) → Bounded b → size b ≡ 0 → (i : ℕ) → b.members i ≡ false
  pub zero : (b : Bits) → ((i : ℕ) → b.members i ≡ false) → size b ≡ 0
  pub more : (b s : Bits) (p : ℕ) → s.count ≡ b.count → p < 64 * b.count → b.members p ≡ false → s.members p ≡ true
      → ((q : ℕ) → (q ≡ p → ⊥) → s.members q ≡ b.members q) → size s ≡ suc (size b)
