-- How an answer crosses to C: of what is told of it the number is returned (r), and its count, value or record goes out by parameters.
use Rattle.std.specs.Prelude.{ℕ, ◌≡◌, Ok, Err}
use Rattle.sheet.specs.Reads.{reading_number, reading_record, reading_count}
use Rattle.told.specs.Tellings.{change_told, split_told, found_told, amount_told, truth_told}
use Rattle.told.specs.declared.Told.{Told}
use Rattle.storage.specs.Refusals.{Found, Amount, Truth, Change, answer_number}
use Rattle.sheet.specs.Reads.{Reading}
use Rattle.shapes.specs.Shapes.{Split}

-- a change: the count, which is the old one where it is refused
pub record ChangeOut (a : Change) (r n : ℕ) : Type 0 where
  pub number : r ≡ (change_told a).number
  pub count : n ≡ (change_told a).value

-- `split_off`: the head's count, and the tail's, which is 0 where it is refused
pub record SplitOut (a : Split) (r n t : ℕ) : Type 0 where
  pub number : r ≡ (split_told a).number
  pub count : n ≡ (split_told a).value
  pub tail : t ≡ (split_told a).also

-- a search: whether something is found, and its place
pub record FoundOut (a : Found) (r f v : ℕ) : Type 0 where
  pub number : r ≡ (found_told a).number
  pub found : f ≡ (found_told a).tag
  pub place : v ≡ (found_told a).value

-- one value goes out
pub record ValueOut (t : Told) (r v : ℕ) : Type 0 where
  pub number : r ≡ t.number
  pub value : v ≡ t.value

abbrev pub AmountOut : Amount → ℕ → ℕ → Type 0
AmountOut a = ValueOut (amount_told a)

-- 1 for true, 0 for false
abbrev pub TruthOut : Truth → ℕ → ℕ → Type 0
TruthOut a = ValueOut (truth_told a)

-- a reading: its record, and the result's count
pub record ReadingOut (a : Reading) (r k n : ℕ) : Type 0 where
  pub number : r ≡ reading_number a
  pub at : k ≡ reading_record a
  pub count : n ≡ reading_count a

-- a sheet's length after a call: a refusal leaves the old one
abbrev pub length_left : Amount → ℕ → ℕ
length_left (Ok n) old = n
length_left (Err e) old = old

pub record AddedOut (a : Amount) (old r n : ℕ) : Type 0 where
  pub number : r ≡ answer_number a
  pub length : n ≡ length_left a old
