-- What a duty record asks for, in an edition of the table, as `edit_of` answers it.
use Rattle.std.specs.Prelude.{ℕ, List, Result, Ok, Err}
use Rattle.storage.specs.declared.Refusal.{Refusal}
use Rattle.sheet.specs.Kinds.{size_in, rule_of}
use Rattle.editions.specs.Reader.{Turn, stop, next, asking}
use Rattle.sheet.specs.declared.Edit.{Edit}

-- an edit, or why it is refused
abbrev pub Asked : Type 0
Asked = Result Edit Refusal

-- what is asked for, as an answer
abbrev pub asked_by : Turn Edit → Asked
asked_by (stop e) = Err e
asked_by (next e) = Ok e

unfoldable pub asked_for : ℕ → ℕ → List ℕ → Asked
unfolding size_in rule_of
asked_for edition kind payload = asked_by (asking (size_in edition) rule_of kind payload)
