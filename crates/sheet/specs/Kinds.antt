-- The kinds of duty records (01, "The change sheet"): the table, what a payload asks for, and how an edit is laid out; both by the row.
use Rattle.std.specs.Prelude.{ℕ, zero, suc, ◌+◌, ◌*◌, ◌-◌, ◌^◌, ◌/◌, ◌%◌, ◌&&◌, List, [], ◌∷◌, get_or, leb, eqb, Some, None}
use Rattle.std.proofs.Math.Option.{Option, none, some}
use Rattle.std.proofs.Math.ListN.{get_elem?}
use Rattle.word.specs.Sets.{choose, val}
use Rattle.word.specs.Places.{is_one}
use Rattle.storage.specs.Refusals.{number_of}
use Rattle.storage.specs.declared.Refusal.TheVariants.{NewerKind}
use Rattle.sheet.specs.Bytes.{number, bytes}
use Rattle.sheet.specs.Layout.{Field, field, widths, packed, unpacked, in_range, InRange}
use Rattle.sheet.specs.declared.Edit.{Edit}
use Rattle.sheet.specs.declared.Edit.TheVariants.{Set, Unset, SetRegion, SetField, Shift, Rotate, Resize, Reverse, ToggleRegion, Open, Close}

-- a row of the table: the fields of a payload in order, its unused end bits, the first edition, and the edit of the fields' values
pub record Row : Type 0 where
  pub fields : List Field
  pub spare : ℕ
  pub since : ℕ
  pub make : List ℕ → Edit

abbrev pub row : List Field → ℕ → ℕ → (List ℕ → Edit) → Row
row fs n s m = record { fields = fs; spare = n; since = s; make = m }

-- the most bits of a resize
abbrev pub most_bits : ℕ
most_bits = 4_294_967_296

-- a position or an amount, a truth value or a direction, a field's width and value, and a number of bits
abbrev pub place : Field
place = field 32 0 (2 ^ 32 - 1)

abbrev pub flag : Field
flag = field 1 0 1

abbrev pub width : Field
width = field 7 0 64

abbrev pub word : Field
word = field 64 0 (2 ^ 64 - 1)

abbrev pub size_field : Field
size_field = field 33 0 most_bits

-- value i of a list, from 0 on
abbrev pub value_at : List ℕ → ℕ → ℕ
value_at vs i = get_or vs i 0

-- kinds 1 to 11
abbrev pub table : List Row
table =
    row (place ∷ []) 0 1 (λ v. Set (value_at v 0))
    ∷ row (place ∷ []) 0 1 (λ v. Unset (value_at v 0))
    ∷ row (flag ∷ place ∷ place ∷ []) 7 1 (λ v. SetRegion (is_one (value_at v 0)) (value_at v 1) (value_at v 2))
    ∷ row (place ∷ width ∷ word ∷ []) 1 1 (λ v. SetField (value_at v 0) (value_at v 1) (value_at v 2))
    ∷ row (flag ∷ place ∷ []) 7 1 (λ v. Shift (is_one (value_at v 0)) (value_at v 1))
    ∷ row (flag ∷ place ∷ []) 7 1 (λ v. Rotate (is_one (value_at v 0)) (value_at v 1))
    ∷ row (size_field ∷ []) 7 1 (λ v. Resize (value_at v 0))
    ∷ row [] 0 1 (λ v. Reverse)
    ∷ row (place ∷ place ∷ []) 0 2 (λ v. ToggleRegion (value_at v 0) (value_at v 1))
    ∷ row (place ∷ place ∷ []) 0 2 (λ v. Open (value_at v 0) (value_at v 1))
    ∷ row (place ∷ place ∷ []) 0 2 (λ v. Close (value_at v 0) (value_at v 1))
    ∷ []

-- of a row the payload's bytes, the values in a payload, as one number, and the number of some values
unfoldable pub bytes_in : Row → ℕ
unfolding widths
bytes_in r = (widths r.fields + r.spare) / 8

unfoldable pub values_in : Row → ℕ → List ℕ
unfolding unpacked
values_in r x = unpacked r.fields (x / 2 ^ r.spare)

unfoldable pub number_in : Row → List ℕ → ℕ
unfolding packed
number_in r vs = packed r.fields vs * 2 ^ r.spare

-- what a payload asks for: none where an unused bit is set or a value is out of its field's range
unfoldable pub parse_payload : Row → ℕ → Option Edit
unfolding values_in in_range
parse_payload r x = choose (eqb (x % 2 ^ r.spare) 0 && in_range r.fields (values_in r x)) (some (r.make (values_in r x))) none

-- the row of a kind: kind 0 has none
unfoldable pub row_of : ℕ → Option Row
row_of zero = none
row_of (suc k) = get_elem? table k

abbrev pub size_by : ℕ → Option Row → Option ℕ
size_by edition none = none
size_by edition (some r) = choose (leb r.since edition) (some (bytes_in r)) none

-- the payload's bytes of a kind, where the edition has it
unfoldable pub size_in : ℕ → ℕ → Option ℕ
unfolding row_of bytes_in
size_in edition kind = size_by edition (row_of kind)

-- what is answered of a kind: its bytes, where it has some
abbrev pub Known : Type 0
Known = Rattle.std.specs.Prelude.Option ℕ

abbrev pub known : Option ℕ → Known
known none = None
known (some n) = Some n

-- of that answer its number, 0 for a kind that is known, and its bytes, 0 where it is not
abbrev pub known_number : Known → ℕ
known_number (Some n) = 0
known_number None = number_of NewerKind

abbrev pub known_bytes : Known → ℕ
known_bytes (Some n) = n
known_bytes None = 0

abbrev pub parse_by : Option Row → ℕ → Option Edit
parse_by none x = none
parse_by (some r) x = parse_payload r x

-- what a payload of a kind's length asks for
unfoldable pub rule_of : ℕ → List ℕ → Option Edit
unfolding row_of number parse_payload
rule_of kind payload = parse_by (row_of kind) (number payload)

-- an edit's kind and the values of its fields, in the table's order
unfoldable pub kind_of : Edit → ℕ
kind_of (Set p) = 1
kind_of (Unset p) = 2
kind_of (SetRegion v p k) = 3
kind_of (SetField p w v) = 4
kind_of (Shift d k) = 5
kind_of (Rotate d k) = 6
kind_of (Resize n) = 7
kind_of Reverse = 8
kind_of (ToggleRegion p k) = 9
kind_of (Open p k) = 10
kind_of (Close p k) = 11

unfoldable pub fields_of : Edit → List ℕ
fields_of (Set p) = p ∷ []
fields_of (Unset p) = p ∷ []
fields_of (SetRegion v p k) = val v ∷ p ∷ k ∷ []
fields_of (SetField p w v) = p ∷ w ∷ v ∷ []
fields_of (Shift d k) = val d ∷ k ∷ []
fields_of (Rotate d k) = val d ∷ k ∷ []
fields_of (Resize n) = n ∷ []
fields_of Reverse = []
fields_of (ToggleRegion p k) = p ∷ k ∷ []
fields_of (Open p k) = p ∷ k ∷ []
fields_of (Close p k) = p ∷ k ∷ []

abbrev pub number_by : Option Row → List ℕ → ℕ
number_by none vs = 0
number_by (some r) vs = number_in r vs

abbrev pub bytes_by : Option Row → ℕ
bytes_by none = 0
bytes_by (some r) = bytes_in r

abbrev pub fields_by : Option Row → List Field
fields_by none = []
fields_by (some r) = r.fields

-- its payload, as one number and as bytes
unfoldable pub numbered : Edit → ℕ
unfolding row_of kind_of fields_of number_in
numbered e = number_by (row_of (kind_of e)) (fields_of e)

unfoldable pub payload_of : Edit → List ℕ
unfolding row_of kind_of numbered bytes bytes_in
payload_of e = bytes (bytes_by (row_of (kind_of e))) (numbered e)

-- the values are in the ranges of the table
unfoldable pub Ranged : Edit → Type 0
unfolding row_of kind_of fields_of
Ranged e = InRange (fields_by (row_of (kind_of e))) (fields_of e)
