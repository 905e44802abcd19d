-- What the definitions promise, in words of their own. Each is proved in proofs/Promises, `SetFieldStrictExact` in proofs/Once.
use Rattle.std.specs.Prelude.{ℕ, suc, ◌+◌, ◌*◌, ◌^◌, ◌≤◌, ◌<◌, ◌≡◌, true, false, List, ◌↔◌, ◌⊎◌, length, get_or, take, Ok, Err}
use Rattle.word.specs.Places.{bit}
use Rattle.storage.specs.Refusals.{answer_number, truth_value}
use Rattle.storage.specs.Stores.{Bits, view, held, reading_both}
use Rattle.storage.specs.Promises.{GuardedBoth, HandsNone, Tests, AmountCall, TruthCall, Meets, MeetsExactly}
use Rattle.storage.specs.declared.Bitmap.{Bitmap}
use Rattle.slice.specs.Slices.{front_part, equal, field_at, setting_field_inside}
use Rattle.storage.specs.Refusals.{Truth}

-- `get`: 1 exactly where i is a member
abbrev pub GetMeans : Type 0
GetMeans = (i : ℕ) → TruthCall (λ s. Ok (s.members i)) (λ b. Tests (b.members i ≡ true))

-- every digit, and 3 exactly over 64 digits
abbrev pub FieldDigits : ℕ → ℕ → Bits → ℕ → ℕ → Type 0
FieldDigits i width b x v =
    ((x ≡ 0) × (width ≤ 64) × ((j : ℕ) → j < width → bit v j ≡ b.members (i + j)) × ((j : ℕ) → width ≤ j → bit v j ≡ false))
    ⊎ ((x ≡ 3) × (v ≡ 0) × (64 < width))

-- `get_field`
abbrev pub GetFieldMeans : Type 0
GetFieldMeans = (i width : ℕ) → AmountCall (field_at i width) (FieldDigits i width)

-- `eq`: the second store after the first; 1 exactly where every number is a member of both or of neither
abbrev pub EqMeans : Type 0
EqMeans =
    (ws : List ℕ) (b : Bitmap) (os : List ℕ) (o : Bitmap) (r : Truth) → r ≡ reading_both ws b os o Err (λ s t. Ok (equal s t))
    → let x = answer_number r in
    let v = truth_value r in
    GuardedBoth ws b os o (HandsNone x v) (Tests ((i : ℕ) → (held ws b).members i ≡ (held os o).members i) x v)

-- 01's equality: two sets are one exactly where the words agree after trailing zero words are dropped
abbrev pub EqualWords : Type 0
EqualWords =
    (ws os : List ℕ) (n m : ℕ) → n ≤ length ws → m ≤ length os → ((k : ℕ) → get_or ws k 0 < 2 ^ 64) → ((k : ℕ) → get_or os k 0 < 2 ^ 64)
    → ((i : ℕ) → (view ws n).members i ≡ (view os m).members i) ↔ (front_part (take n ws) ≡ front_part (take m os))

-- the places of the field have the value's digits, all others and the count are as they were
pub record FieldWritten (i value width : ℕ) (b s : Bits) : Type 0 where
  pub wide : width ≤ 64
  pub inside : (width ≡ 0) ⊎ (i + width ≤ 64 * b.count)
  pub none : width ≡ 0 → s ≡ b
  pub count : s.count ≡ b.count
  pub field : (j : ℕ) → j < width → s.members (i + j) ≡ bit value j
  pub below : (p : ℕ) → p < i → s.members p ≡ b.members p
  pub above : (p : ℕ) → i + width ≤ p → s.members p ≡ b.members p

-- 3 exactly over 64 digits, then 5 exactly where a place is past the length
abbrev pub FieldRefused : ℕ → ℕ → Bits → ℕ → Type 0
FieldRefused i width b k = ((k ≡ 3) × (64 < width)) ⊎ ((k ≡ 5) × (0 < width) × (width ≤ 64) × (64 * b.count < i + width))

-- `set_field_strict`
abbrev pub SetFieldStrict : Type 0
SetFieldStrict = (i value width : ℕ) → Meets (setting_field_inside i value width) (λ c. FieldWritten i value width) (λ c. FieldRefused i width)

-- and it is exact: done where there is a result as said, refused with 3 or 5 where its condition holds
abbrev pub SetFieldStrictExact : Type 0
SetFieldStrictExact = (i value width : ℕ) → MeetsExactly (setting_field_inside i value width) (λ c. FieldWritten i value width) (λ c. FieldRefused i width)

-- a front part, whose last word is not 0, with only zero words after it
pub record FrontOf (ws part : List ℕ) : Type 0 where
  pub front : part ≡ take (length part) ws
  pub last : (k : ℕ) → suc k ≡ length part → get_or ws k 0 ≡ 0 → ⊥
  pub after : (k : ℕ) → length part ≤ k → get_or ws k 0 ≡ 0

-- `trimmed`
abbrev pub TrimmedMeans : Type 0
TrimmedMeans = (ws : List ℕ) → FrontOf ws (front_part ws)
