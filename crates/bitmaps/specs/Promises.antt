-- What the calls of bitmap.rs promise, for every number. Each is proved in proofs/Promises, `CallsExact` in proofs/Once.
use Rattle.std.specs.Prelude.{ℕ, suc, ◌+◌, ◌*◌, ◌/◌, ◌^◌, ◌≤◌, ◌<◌, max, ◌≡◌, Bool, true, false, not, List, ◌⊎◌, length, get_or}
use Rattle.word.specs.Places.{bit}
use Rattle.storage.specs.Stores.{Bits}
use Rattle.storage.specs.Promises.{LeastCount, Meets, Unchanged, Never, Lacks, LacksResult, MeetsExactly}
use Rattle.bitmaps.specs.Bitmaps.{trimming, setting, unsetting, setting_many, setting_region, setting_field, tidied, keeping_bit, dropping_bit, flipping_bit}

-- `set`: i is a member, every other number is as it was, and the words reach to i's
pub record WithBit (i : ℕ) (b s : Bits) : Type 0 where
  pub count : s.count ≡ max b.count (i / 64 + 1)
  pub here : s.members i ≡ true
  pub others : (j : ℕ) → (j ≡ i → ⊥) → s.members j ≡ b.members j

-- `set_many`: the listed numbers come in and no others, in the fewest words, b's at least, that reach to all of them
pub record WithListed (is : List ℕ) (b s : Bits) : Type 0 where
  pub all : (t : ℕ) → t < length is → s.members (get_or is t 0) ≡ true
  pub kept : (j : ℕ) → b.members j ≡ true → s.members j ≡ true
  pub only : (j : ℕ) → s.members j ≡ true → (b.members j ≡ true) ⊎ (t : ℕ) × ((t < length is) × (get_or is t 0 ≡ j))
  pub from : b.count ≤ s.count
  pub reached : (t : ℕ) → t < length is → get_or is t 0 / 64 < s.count
  pub least : (n : ℕ) → b.count ≤ n → ((t : ℕ) → t < length is → get_or is t 0 / 64 < n) → s.count ≤ n

-- 6, where the words in use or the word of a listed number are past the capacity
abbrev pub LacksListed : List ℕ → ℕ → Bits → ℕ → Type 0
LacksListed is c b k = (k ≡ 6) × ((c < b.count) ⊎ (t : ℕ) × ((t < length is) × (c ≤ get_or is t 0 / 64)))

-- `unset`: i is no member, every other number and the count are as they were
pub record WithoutBit (i : ℕ) (b s : Bits) : Type 0 where
  pub count : s.count ≡ b.count
  pub here : s.members i ≡ false
  pub others : (j : ℕ) → (j ≡ i → ⊥) → s.members j ≡ b.members j

-- `trim`: the same members in the fewest words that hold them
pub record Fewest (b s : Bits) : Type 0 where
  pub same : (i : ℕ) → s.members i ≡ b.members i
  pub count : LeastCount b.members b.count s.count

-- `set_region`, of k > 0 numbers: those from i on, below i + k, and no others change; true grows to the last one's word
pub record WithRegion (i : ℕ) (v : Bool) (k : ℕ) (b s : Bits) : Type 0 where
  pub inside : (j : ℕ) → i ≤ j → j < i + k → s.members j ≡ v
  pub before : (j : ℕ) → j < i → s.members j ≡ b.members j
  pub after : (j : ℕ) → i + k ≤ j → s.members j ≡ b.members j
  pub grown : (last : ℕ) → suc last ≡ i + k → v ≡ true → s.count ≡ max b.count (last / 64 + 1)
  pub kept : v ≡ false → s.count ≡ b.count

-- 4 where the last index passes 2 ^ 64 - 1, then 6 where the words in use, or the last one's word for true, are past the capacity
abbrev pub NoRegion : ℕ → Bool → ℕ → ℕ → Bits → ℕ → Type 0
NoRegion i v k c b m =
    ((m ≡ 4) × (2 ^ 64 < i + k)) ⊎ ((m ≡ 6) × (i + k ≤ 2 ^ 64) × ((c < b.count) ⊎ ((v ≡ true) × (64 * c < i + k))))

-- `set_field`, of width > 0: the numbers from i on have the value's digits and no others change; zeros keep the count, a digit 1 grows to the last one's word
pub record WithField (i value width : ℕ) (b s : Bits) : Type 0 where
  pub inside : (j : ℕ) → j < width → s.members (i + j) ≡ bit value j
  pub before : (p : ℕ) → p < i → s.members p ≡ b.members p
  pub after : (p : ℕ) → i + width ≤ p → s.members p ≡ b.members p
  pub kept : ((j : ℕ) → j < width → bit value j ≡ false) → s.count ≡ b.count
  pub grown : (j last : ℕ) → j < width → bit value j ≡ true → suc last ≡ i + width → s.count ≡ max b.count (last / 64 + 1)

-- 3 over 64 digits, then 4 where the last index passes 2 ^ 64 - 1, then 6 where the words in use, or the last one's word for a digit 1, are past the capacity
abbrev pub NoField : ℕ → ℕ → ℕ → ℕ → Bits → ℕ → Type 0
NoField i value width c b k =
    ((k ≡ 3) × (64 < width))
    ⊎ (((k ≡ 4) × (width ≤ 64) × (2 ^ 64 < i + width))
    ⊎ ((k ≡ 6) × (width ≤ 64) × (i + width ≤ 2 ^ 64) × ((c < b.count) ⊎ (j : ℕ) × ((j < width) × (bit value j ≡ true) × (64 * c < i + width)))))

-- where word k is the last and holds no member, the same members in the fewest words; otherwise nothing changes
pub record Tidied (k : ℕ) (t s : Bits) : Type 0 where
  pub same : (j : ℕ) → s.members j ≡ t.members j
  pub trims : suc k ≡ t.count → ((j : ℕ) → j / 64 ≡ k → t.members j ≡ false) → LeastCount t.members t.count s.count
  pub not_last : (suc k ≡ t.count → ⊥) → s.count ≡ t.count
  pub not-empty : (j : ℕ) → j / 64 ≡ k → t.members j ≡ true → s.count ≡ t.count

abbrev pub Tidies : Type 0
Tidies = (k : ℕ) (t : Bits) → Tidied k t (tidied k t)

-- `andi`, `andnoti`, `xori`: t is the set before any word is dropped, i's word is the one worked on
pub record OnlyBit (i : ℕ) (b t : Bits) : Type 0 where
  pub count : t.count ≡ b.count
  pub here : t.members i ≡ b.members i
  pub word : (j : ℕ) → j / 64 ≡ i / 64 → (j ≡ i → ⊥) → t.members j ≡ false
  pub others : (j : ℕ) → (j / 64 ≡ i / 64 → ⊥) → t.members j ≡ b.members j

pub record FlippedBit (i : ℕ) (b t : Bits) : Type 0 where
  pub count : t.count ≡ max b.count (i / 64 + 1)
  pub here : t.members i ≡ not (b.members i)
  pub others : (j : ℕ) → (j ≡ i → ⊥) → t.members j ≡ b.members j

-- the rule of t, and then tidied at i's word
abbrev pub ThenTidied : ℕ → (Bits → Bits → Type 0) → Bits → Bits → Type 0
ThenTidied i rule b s = (t : Bits) × rule b t × Tidied (i / 64) t s

-- What each call promises: what is done, with space, and each refusal where its condition holds. No numbers and no digits change nothing, whatever the index.

abbrev pub Sets : Type 0
Sets = (i : ℕ) → Meets (setting i) (λ c. WithBit i) (Lacks (λ b. max b.count (i / 64 + 1)))

abbrev pub SetsMany : Type 0
SetsMany = (is : List ℕ) → Meets (setting_many is) (λ c. WithListed is) (LacksListed is)

abbrev pub Unsets : Type 0
Unsets = (i : ℕ) → Meets (unsetting i) (λ c. WithoutBit i) Never

abbrev pub Trims : Type 0
Trims = Meets trimming (λ c. Fewest) Never

abbrev pub Regions : Type 0
Regions =
    (i : ℕ) (v : Bool) (k : ℕ) → (k ≡ 0 → ⊥)
    → Meets (setting_region i v k) (λ c b s. (i + k ≤ 2 ^ 64) × WithRegion i v k b s) (NoRegion i v k)

abbrev pub SetsNoRegion : Type 0
SetsNoRegion = (i : ℕ) (v : Bool) → Meets (setting_region i v 0) Unchanged Never

abbrev pub FieldsSet : Type 0
FieldsSet =
    (i value width : ℕ) → (width ≡ 0 → ⊥)
    → Meets (setting_field i value width) (λ c b s. (width ≤ 64) × (i + width ≤ 2 ^ 64) × WithField i value width b s) (NoField i value width)

abbrev pub FieldUnchanged : Type 0
FieldUnchanged = (i value : ℕ) → Meets (setting_field i value 0) Unchanged Never

abbrev pub KeepsBit : Type 0
KeepsBit = (i : ℕ) → Meets (keeping_bit i) (λ c. ThenTidied i (OnlyBit i)) Never

abbrev pub DropsBit : Type 0
DropsBit = (i : ℕ) → Meets (dropping_bit i) (λ c. ThenTidied i (WithoutBit i)) Never

abbrev pub FlipsBit : Type 0
FlipsBit = (i : ℕ) → Meets (flipping_bit i) (λ c. ThenTidied i (FlippedBit i)) (LacksResult (ThenTidied i (FlippedBit i)))

-- and each is exact: done where there is a result as said, with space, and refused with a number where its condition holds
pub record CallsExact : Type 0 where
  pub set : (i : ℕ) → MeetsExactly (setting i) (λ c. WithBit i) (Lacks (λ b. max b.count (i / 64 + 1)))
  pub set_many : (is : List ℕ) → MeetsExactly (setting_many is) (λ c. WithListed is) (LacksListed is)
  pub unset : (i : ℕ) → MeetsExactly (unsetting i) (λ c. WithoutBit i) Never
  pub trim : MeetsExactly trimming (λ c. Fewest) Never
  pub set_region : (i : ℕ) (v : Bool) (k : ℕ) → (k ≡ 0 → ⊥)
      → MeetsExactly (setting_region i v k) (λ c b s. (i + k ≤ 2 ^ 64) × WithRegion i v k b s) (NoRegion i v k)
  pub set_field : (i value width : ℕ) → (width ≡ 0 → ⊥)
      → MeetsExactly (setting_field i value width) (λ c b s. (width ≤ 64) × (i + width ≤ 2 ^ 64) × WithField i value width b s) (NoField i value width)
  pub andi : (i : ℕ) → MeetsExactly (keeping_bit i) (λ c. ThenTidied i (OnlyBit i)) Never
  pub andnoti : (i : ℕ) → MeetsExactly (dropping_bit i) (λ c. ThenTidied i (WithoutBit i)) Never
  pub xori : (i : ℕ) → MeetsExactly (flipping_bit i) (λ c. ThenTidied i (FlippedBit i)) (LacksResult (ThenTidied i (FlippedBit i)))
