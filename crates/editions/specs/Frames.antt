-- A sheet's header and the frames of its records, by its bytes: a byte past the end is 0.
use Rattle.std.specs.Prelude.{ℕ, zero, suc, ◌+◌, ◌*◌, ◌%◌, Bool, ◌&&◌, List, length, get_or, take, drop, leb, ltb, eqb}
use Rattle.std.proofs.Math.Option.{Option, none, some}
use Rattle.word.specs.Sets.{choose}
use Rattle.storage.specs.declared.Refusal.{Refusal}
use Rattle.storage.specs.declared.Refusal.TheVariants.{NotSheet, CutRecord, BytesRemain}

-- a record of a sheet
pub record Item : Type 0 where
  pub duty : Bool
  pub kind : ℕ
  pub payload : List ℕ

module _ (sheet : List ℕ) where
  -- at least four bytes, the letters N and S first
  abbrev pub headed : Bool
  headed = leb 4 (length sheet) && (eqb (get_or sheet 0 0) 78 && eqb (get_or sheet 1 0) 83)

  -- the record count R
  abbrev pub count_in : ℕ
  count_in = get_or sheet 2 0 * 256 + get_or sheet 3 0

  -- the payload's length of the record that starts at a position
  abbrev pub size_at : ℕ → ℕ
  size_at at = get_or sheet (at + 1) 0 * 256 + get_or sheet (at + 2) 0

  -- the position after it
  abbrev pub end_at : ℕ → ℕ
  end_at at = at + 3 + size_at at

  -- a duty bit, seven bits of kind, and the payload
  abbrev pub item_at : ℕ → Item
  item_at at = record { duty = leb 128 (get_or sheet at 0); kind = get_or sheet at 0 % 128; payload = take (size_at at) (drop (at + 3) sheet) }

-- n records from a position on: 10 where one runs past the end, 11 where bytes are left
unfoldable pub frames_fault : List ℕ → ℕ → ℕ → Option Refusal
frames_fault sheet zero at = choose (ltb at (length sheet)) (some BytesRemain) none
frames_fault sheet (suc n) at = choose (leb (end_at sheet at) (length sheet)) (frames_fault sheet n (end_at sheet at)) (some CutRecord)

-- 9, 10 or 11 of a whole sheet
unfoldable pub sheet_fault : List ℕ → Option Refusal
unfolding frames_fault
sheet_fault sheet = choose (headed sheet) (frames_fault sheet (count_in sheet) 4) (some NotSheet)
