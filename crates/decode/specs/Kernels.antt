-- What serves contracts of this crate's private functions.
use Rattle.std.specs.Prelude.{ℕ, ◌≡◌, Bool, List, Result, Ok, Err}
use Rattle.std.proofs.Math.Option.{Option}
use Rattle.storage.specs.declared.Refusal.{Refusal}
use Rattle.sheet.specs.Kinds.{row_of, bytes_in, bytes_by, rule_of}
use Rattle.editions.specs.Reader.{ruled}
use Rattle.sheet.specs.declared.Edit.{Edit}
use Rattle.sheet.specs.declared.Edit.TheVariants.{Shift, Rotate, ToggleRegion, Open, Close}
use Rattle.decode.specs.Asks.{asked_by}
use Rattle.decode.specs.Asks.{Asked}

-- the payload's bytes of a kind
unfoldable pub payload_length : ℕ → ℕ
unfolding row_of bytes_in
payload_length kind = bytes_by (row_of kind)

-- a payload's edit, or 12
abbrev pub asks : Option Edit → Asked
asks o = asked_by (ruled o)

-- the edit of a direction and k, where the payload has them
unfoldable pub turned : (Bool → ℕ → Edit) → Result (Bool × ℕ) Refusal → Asked
turned edit (Ok (right, k)) = Ok (edit right k)
turned edit (Err why) = Err why

-- the direction and k of a payload of kind 5 or 6, or 12
abbrev pub Turned : List ℕ → Result (Bool × ℕ) Refusal → Type 0
Turned l r = (turned Shift r ≡ asks (rule_of 5 l)) × (turned Rotate r ≡ asks (rule_of 6 l))

-- p and k of a payload of kind 9, 10 or 11
abbrev pub Paired : List ℕ → ℕ × ℕ → Type 0
Paired l (p, k) = (Ok (ToggleRegion p k) ≡ asks (rule_of 9 l)) × (Ok (Open p k) ≡ asks (rule_of 10 l)) × (Ok (Close p k) ≡ asks (rule_of 11 l))
