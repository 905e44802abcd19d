-- What is promised of a reading in any edition, whatever its edits and states, and of the faults of a sheet. Proved in proofs/: Exact, Editions and Faults.
use Rattle.std.specs.Prelude.{ℕ, ◌<◌, ◌≡◌, List, ◌↔◌, ◌⊎◌, length}
use Rattle.storage.specs.Refusals.{number_of}
use Rattle.storage.specs.declared.Refusal.{Refusal}
use Rattle.editions.specs.Reader.{Edition, Turn, Answer, refused, done, read}
use Rattle.editions.specs.Meaning.{Header, total, start, Whole, AtRecord, Newer, Due, Holds}

-- of any edition, whatever its edits and states: a reading gives the answer that is due, and no other
abbrev pub ReadExact : Type 1
ReadExact = (A S : Type 0) (E : Edition A S) (sheet : List ℕ) (old : Turn S) (a : Answer S) → (read E sheet old ≡ a) ↔ Due E sheet old a

-- the edition E gives F's answer or names a newer kind; what it accepts keeps its meaning
pub record EarlierKeeps {A S : Type 0} (E F : Edition A S) (sheet : List ℕ) (old : Turn S) : Type 0 where
  pub same : (read E sheet old ≡ read F sheet old)
      ⊎ ((why : Refusal) × (k : ℕ) × (read E sheet old ≡ refused why k) × (number_of why ≡ 13) × AtRecord E sheet old k (Newer E sheet))
  pub kept : (k : ℕ) (s : S) → read E sheet old ≡ done k s → read F sheet old ≡ done k s

-- (b) of any two editions of which the later holds the earlier, whatever their edits and states
abbrev pub AnyTwo : Type 1
AnyTwo = (A S : Type 0) (E F : Edition A S) → Holds E F → (sheet : List ℕ) (old : Turn S) → EarlierKeeps E F sheet old

-- (d): 9, 10 or 11 of a sheet that is given to the writer, or 0 for nothing
pub data SheetGets (sheet : List ℕ) (x : ℕ) : Type 0 where
  no_header : ¬ Header sheet → x ≡ 9 → SheetGets sheet x
  cut : Header sheet → (i : ℕ) → i < total sheet → ((j : ℕ) → j < i → Whole sheet j) → ¬ Whole sheet i → x ≡ 10 → SheetGets sheet x
  remain : Header sheet → ((j : ℕ) → j < total sheet → Whole sheet j) → start sheet (total sheet) < length sheet → x ≡ 11 → SheetGets sheet x
  nothing : Header sheet → ((j : ℕ) → j < total sheet → Whole sheet j) → start sheet (total sheet) ≡ length sheet → x ≡ 0 → SheetGets sheet x
