-- What serves contracts of the writer's private functions.
use Rattle.std.specs.Prelude.{ℕ, ◌+◌, ◌^◌, ◌/◌, ◌%◌, ◌≤◌, Bool, ◌||◌, List, length, leb, ltb, Result, Ok, Err}
use Rattle.std.proofs.Math.Option.{Option, none, some}
use Rattle.sheet.specs.Kinds.{numbered}
use Rattle.editions.specs.Frames.{count_in}
use Rattle.plain.specs.Writer.{most, Checked, bad, good, edit, note}
use Rattle.storage.specs.declared.Refusal.{Refusal}

-- a sheet of len bytes lies in the buffer, its record count too
pub record Given (buf : List ℕ) (len : ℕ) : Type 0 where
  pub headed : 4 ≤ len
  pub inside : len ≤ length buf

-- a kind's bytes, 0 where it has none
abbrev pub or_zero : Option ℕ → ℕ
or_zero none = 0
or_zero (some n) = n

-- a duty record's payload as one number, in two parts
abbrev pub Parts : Type 0
Parts = Result (ℕ × ℕ) Refusal

unfoldable pub parts_of : Checked → Parts
unfolding numbered
parts_of (bad e) = Err e
parts_of (good (edit e)) = Ok (numbered e / 2 ^ 64, numbered e % 2 ^ 64)
parts_of (good (note kind payload)) = Ok (0, 0)

-- a record with n bytes of payload has no room, or would be the 65,536th
unfoldable pub roomless_in : List ℕ → ℕ → ℕ → Bool
roomless_in buf len n = leb most (count_in buf) || ltb (length buf) (len + 3 + n)
