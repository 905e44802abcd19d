-- What the calls of this crate promise, by a sheet's bytes as sheet's Meaning reads them. Proved in proofs/Promises.
use Rattle.std.specs.Prelude.{ℕ, ◌≤◌, ◌<◌, ◌≡◌, true, List, ◌↔◌, length, Option, Some, None}
use Rattle.storage.specs.Refusals.{answer_number}
use Rattle.editions.specs.Frames.{headed, count_in, sheet_fault}
use Rattle.editions.specs.Meaning.{Header, total, past}
use Rattle.editions.specs.Promises.{SheetGets}
use Rattle.frames.specs.Frames.{end_in, fault_by}

-- `has_head` and `record_count`
pub record HeadIn (sheet : List ℕ) : Type 0 where
  pub head : (headed sheet ≡ true) ↔ Header sheet
  pub count : count_in sheet ≡ total sheet

-- `record_end`: the end that head and payload say, where they lie in the sheet; none exactly where they do not
pub record EndsAt (sheet : List ℕ) (at : ℕ) (r : Option ℕ) : Type 0 where
  pub whole : past sheet at ≤ length sheet → r ≡ Some (past sheet at)
  pub cut : (r ≡ None) ↔ (length sheet < past sheet at)

-- whatever bytes are given, and at any place; 9, 10 or 11 of `fault`, 0 for none, exactly where it is due
pub record FramesMean : Type 0 where
  pub heads : (sheet : List ℕ) → HeadIn sheet
  pub ends : (sheet : List ℕ) (at : ℕ) → EndsAt sheet at (end_in sheet at)
  pub faults : (sheet : List ℕ) (x : ℕ) → (answer_number (fault_by (sheet_fault sheet)) ≡ x) ↔ SheetGets sheet x
