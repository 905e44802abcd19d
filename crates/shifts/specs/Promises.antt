-- What the four calls promise, in words of their own: where each number goes, and that nothing else comes in. Each is proved in proofs/Promises, `CallsExact` in proofs/Once.
use Rattle.std.specs.Prelude.{ℕ, ◌+◌, ◌-◌, ◌*◌, ◌%◌, ◌≤◌, ◌<◌, ◌≡◌, Bool, true, false}
use Rattle.word.specs.Promises.{MovesWords}
use Rattle.storage.specs.Stores.{Bits, Bounded, done, Op}
use Rattle.storage.specs.Promises.{Meets, Never, MeetsExactly}
use Rattle.shifts.specs.Shifts.{moved_up, moved_down, turned_up, turned_down, shifting_left, shifting_right, rotating_left, rotating_right}

-- whatever the capacity, the call is done, the count stays, and the rule holds of the length, the old set and the new one
abbrev pub Moves : Op → (ℕ → (ℕ → Bool) → (ℕ → Bool) → Type 0) → Type 0
Moves op rule = Meets op (λ c b s. Bounded b → (s.count ≡ b.count) × rule (64 * b.count) b.members s.members) Never

-- a member i goes to i + k where that is below the length, and nothing else is a member
pub record ShiftedLeft (k len : ℕ) (old new : ℕ → Bool) : Type 0 where
  pub goes : (i : ℕ) → old i ≡ true → i + k < len → new (i + k) ≡ true
  pub comes : (m : ℕ) → new m ≡ true → (i : ℕ) × (old i ≡ true) × (i + k ≡ m) × (m < len)

-- `shift_left`, `left_words`
abbrev pub ShiftsLeft : Type 0
ShiftsLeft = (k : ℕ) → Moves (shifting_left k) (ShiftedLeft k)

abbrev pub LeftWordsMeans : Type 0
LeftWordsMeans = (k : ℕ) → MovesWords (λ len. moved_up k) (ShiftedLeft k)

-- a member i goes to i - k where i is at least k, and nothing else is a member
pub record ShiftedRight (k len : ℕ) (old new : ℕ → Bool) : Type 0 where
  pub goes : (i : ℕ) → old i ≡ true → k ≤ i → new (i - k) ≡ true
  pub comes : (m : ℕ) → new m ≡ true → (i : ℕ) × (old i ≡ true) × (k ≤ i) × (i - k ≡ m) × (m < len)

-- `shift_right`, `right_words`
abbrev pub ShiftsRight : Type 0
ShiftsRight = (k : ℕ) → Moves (shifting_right k) (ShiftedRight k)

abbrev pub RightWordsMeans : Type 0
RightWordsMeans = (k : ℕ) → MovesWords (λ len. moved_down k) (ShiftedRight k)

-- i is a member exactly where (i + k) mod len is one afterwards; every number below the length is one of those, and none past it is a member
pub record RotatedLeft (k len : ℕ) (old new : ℕ → Bool) : Type 0 where
  pub goes : (i : ℕ) → i < len → new ((i + k) % len) ≡ old i
  pub comes : (m : ℕ) → m < len → (i : ℕ) × (i < len) × ((i + k) % len ≡ m)
  pub past : (m : ℕ) → len ≤ m → new m ≡ false

-- `rotate_left`, `turn_left`
abbrev pub RotatesLeft : Type 0
RotatesLeft = (k : ℕ) → Moves (rotating_left k) (RotatedLeft k)

abbrev pub TurnLeftMeans : Type 0
TurnLeftMeans = (k : ℕ) → MovesWords (λ len. turned_up len k) (RotatedLeft k)

-- (i + k) mod len is a member exactly where i is one afterwards; none past the length is
pub record RotatedRight (k len : ℕ) (old new : ℕ → Bool) : Type 0 where
  pub goes : (i : ℕ) → i < len → new i ≡ old ((i + k) % len)
  pub past : (m : ℕ) → len ≤ m → new m ≡ false

-- `rotate_right`, `turn_right`
abbrev pub RotatesRight : Type 0
RotatesRight = (k : ℕ) → Moves (rotating_right k) (RotatedRight k)

abbrev pub TurnRightMeans : Type 0
TurnRightMeans = (k : ℕ) → MovesWords (λ len. turned_down len k) (RotatedRight k)

-- and each of the four is exact: it is done, with the one result as said, and never refused
abbrev pub MovesExactly : Op → (ℕ → (ℕ → Bool) → (ℕ → Bool) → Type 0) → Type 0
MovesExactly op rule = MeetsExactly op (λ c b s. Bounded b → (s.count ≡ b.count) × rule (64 * b.count) b.members s.members) Never

pub record CallsExact : Type 0 where
  pub shift_left : (k : ℕ) → MovesExactly (shifting_left k) (ShiftedLeft k)
  pub shift_right : (k : ℕ) → MovesExactly (shifting_right k) (ShiftedRight k)
  pub rotate_left : (k : ℕ) → MovesExactly (rotating_left k) (RotatedLeft k)
  pub rotate_right : (k : ℕ) → MovesExactly (rotating_right k) (RotatedRight k)

-- one way and then the other gives the bitmap back
abbrev pub Undoes : Op → Op → Type 0
Undoes op back = (c : ℕ) (b : Bits) → Bounded b → (s : Bits) × (op c b ≡ done s) × (back c s ≡ done b)

-- rotations on sets: each way undoes the other, by the length nothing changes, and where there are no words there is no member
pub record Rotations : Type 0 where
  pub left_right : (k : ℕ) → Undoes (rotating_left k) (rotating_right k)
  pub right_left : (k : ℕ) → Undoes (rotating_right k) (rotating_left k)
  pub round_left : (c : ℕ) (b : Bits) → Bounded b → rotating_left (64 * b.count) c b ≡ done b
  pub round_right : (c : ℕ) (b : Bits) → Bounded b → rotating_right (64 * b.count) c b ≡ done b
  pub empty_left : (k c : ℕ) (b s : Bits) → b.count ≡ 0 → rotating_left k c b ≡ done s → (i : ℕ) → s.members i ≡ false
  pub empty_right : (k c : ℕ) (b s : Bits) → b.count ≡ 0 → rotating_right k c b ≡ done s → (i : ℕ) → s.members i ≡ false
