-- Where a record ends in a sheet, and what is wrong with one, as the calls of this crate answer it.
use Rattle.std.specs.Prelude.{ℕ, List, length, leb, Some, None, Result, Ok, Err, ⊤}
use Rattle.std.proofs.Math.Option.{Option, none, some}
use Rattle.word.specs.Sets.{choose}
use Rattle.storage.specs.declared.Refusal.{Refusal}
use Rattle.editions.specs.Frames.{end_at}

-- where the record at a position ends, if it is whole
unfoldable pub end_in : List ℕ → ℕ → Rattle.std.specs.Prelude.Option ℕ
end_in sheet at = choose (leb (end_at sheet at) (length sheet)) (Some (end_at sheet at)) None

-- a refusal stops
abbrev pub fault_by : Option Refusal → Result ⊤ Refusal
fault_by none = Ok tt
fault_by (some e) = Err e
