-- What a duty record asks for, by 01's table as sheet's Paper has it. Proved in proofs/Promises.
use Rattle.std.specs.Prelude.{ℕ, ◌<◌, ◌≡◌, List, ◌↔◌, get_or, Ok}
use Rattle.sheet.specs.Promises.{HasKind, Laid}
use Rattle.sheet.specs.declared.Edit.{Edit}
use Rattle.decode.specs.Asks.{asked_for}
use Rattle.decode.specs.Asks.{Asked}
use Rattle.storage.specs.Refusals.{answer_number}

-- 13 exactly where the edition lacks the kind; then the edit exactly whose line kind and payload are; 12 exactly where they are no edit's
pub record AskedExact (n kind : ℕ) (p : List ℕ) (r : Asked) : Type 0 where
  pub newer : (answer_number r ≡ 13) ↔ (¬ HasKind n kind)
  pub bad : (answer_number r ≡ 12) ↔ (HasKind n kind × ((e : Edit) → ¬ Laid kind p e))
  pub done : (answer_number r ≡ 0) ↔ (HasKind n kind × (e : Edit) × Laid kind p e)
  pub for : (e : Edit) → (r ≡ Ok e) ↔ (HasKind n kind × Laid kind p e)

-- `edit_of`, of a payload of bytes
abbrev pub EditOfMeans : Type 0
EditOfMeans = (n kind : ℕ) (p : List ℕ) → ((i : ℕ) → get_or p i 0 < 256) → AskedExact n kind p (asked_for n kind p)
