-- The writer of a change sheet: what is asked, how a record is laid out, what is answered and what each call leaves in the buffer.
use Rattle.std.specs.Prelude.{ℕ, zero, suc, ◌+◌, ◌≡◌, Bool, true, false, ◌||◌, List, [], ◌∷◌, ◌++◌, length, take, leb, ltb, Ok, Err}
use Rattle.std.proofs.Math.Option.{Option, none, some}
use Rattle.std.proofs.Math.ListN.{get_elem?}
use Rattle.std.proofs.lemmas.List.Edits.{sets}
use Rattle.word.specs.Sets.{choose}
use Rattle.storage.specs.Refusals.{Amount}
use Rattle.storage.specs.declared.Refusal.{Refusal}
use Rattle.storage.specs.declared.Refusal.TheVariants.{CountOverStore, WidthOver, IndexOver, NoSpace, BadPayload, NewerKind}
use Rattle.sheet.specs.Bytes.{bytes}
use Rattle.sheet.specs.Kinds.{most_bits, kind_of, payload_of}
use Rattle.editions.specs.Frames.{count_in, sheet_fault}
use Rattle.sheet.specs.declared.Fields.{Fields}
use Rattle.sheet.specs.declared.Edit.{Edit}
use Rattle.sheet.specs.declared.Edit.TheVariants.{Set, Unset, SetRegion, SetField, Shift, Rotate, Resize, Reverse, ToggleRegion, Open, Close}

-- the most records of a sheet, and the most bytes of a payload
abbrev pub most : ℕ
most = 65_535

-- an addition asked for: a duty record's kind and fields, or a remark's kind and payload
pub data Request : Type 0 where
  duty : (kind : ℕ) → Fields → Request
  remark : (kind : ℕ) → List ℕ → Request

-- fields that a record does not have are ignored
abbrev pub requested : Bool → ℕ → Fields → List ℕ → Request
requested true kind f payload = duty kind f
requested false kind f payload = remark kind payload

-- a record as it is held
pub data Entry : Type 0 where
  edit : Edit → Entry
  note : (kind : ℕ) → List ℕ → Entry

-- a request's refusal, or the record asked for
pub data Checked : Type 0 where
  bad : Refusal → Checked
  good : Entry → Checked

-- kinds 1 to 11 by their fields: 3 for a width over 64, 4 for a resize over its bound
abbrev pub makers : List (Fields → Checked)
makers =
    (λ f. good (edit (Set f.p)))
    ∷ (λ f. good (edit (Unset f.p)))
    ∷ (λ f. good (edit (SetRegion f.flag f.p f.k)))
    ∷ (λ f. choose (ltb 64 f.width) (bad WidthOver) (good (edit (SetField f.p f.width f.value))))
    ∷ (λ f. good (edit (Shift f.flag f.k)))
    ∷ (λ f. good (edit (Rotate f.flag f.k)))
    ∷ (λ f. choose (ltb most_bits f.size) (bad IndexOver) (good (edit (Resize f.size))))
    ∷ (λ f. good (edit Reverse))
    ∷ (λ f. good (edit (ToggleRegion f.p f.k)))
    ∷ (λ f. good (edit (Open f.p f.k)))
    ∷ (λ f. good (edit (Close f.p f.k)))
    ∷ []

abbrev pub maker_of : ℕ → Option (Fields → Checked)
maker_of zero = none
maker_of (suc k) = get_elem? makers k

abbrev pub made_by : Option (Fields → Checked) → Fields → Checked
made_by none f = bad NewerKind
made_by (some m) f = m f

-- 13, 3, 4, 12
unfoldable pub checked_of : Request → Checked
checked_of (duty kind f) = made_by (maker_of kind) f
checked_of (remark kind payload) =
    choose (ltb 127 kind) (bad NewerKind) (choose (ltb most (length payload)) (bad BadPayload) (good (note kind payload)))

-- a record's bytes: duty bit and kind, the payload's length, the payload
abbrev pub laid : ℕ → List ℕ → List ℕ
laid first payload = first ∷ bytes 2 (length payload) ++ payload

unfoldable pub bytes_of : Entry → List ℕ
unfolding bytes kind_of payload_of
bytes_of (edit e) = laid (128 + kind_of e) (payload_of e)
bytes_of (note kind payload) = laid kind payload

-- an answer, and what the buffer becomes
pub record Left : Type 0 where
  pub answer : Amount
  pub buffer : List ℕ

abbrev pub refuse : Refusal → List ℕ → Left
refuse e buf = record { answer = Err e; buffer = buf }

-- a sheet of no records at the front of the buffer
unfoldable pub started : List ℕ → Left
started buf = choose (ltb (length buf) 4) (refuse NoSpace buf) (record { answer = Ok 4; buffer = sets buf 0 (78 ∷ 83 ∷ 0 ∷ 0 ∷ []) })

-- the buffer with R raised
abbrev pub count_raised : List ℕ → List ℕ
count_raised buf = sets buf 2 (bytes 2 (count_in buf + 1))

-- the record goes to the end and R rises; 6 where there are the most already or the buffer is too short
unfoldable pub placed : List ℕ → ℕ → Entry → Left
unfolding bytes_of
placed buf len e =
    let end = len + length (bytes_of e) in
    let put : Left = record { answer = Ok end; buffer = sets (count_raised buf) len (bytes_of e) } in
    choose (leb most (count_in buf) || ltb (length buf) end) (refuse NoSpace buf) put

abbrev pub placed_by : List ℕ → ℕ → Checked → Left
placed_by buf len (bad e) = refuse e buf
placed_by buf len (good e) = placed buf len e

abbrev pub judged : List ℕ → ℕ → Request → Option Refusal → Left
judged buf len q (some e) = refuse e buf
judged buf len q none = placed_by buf len (checked_of q)

-- the sheet is the first len bytes of the buffer: 2, then 9, 10 and 11, then what is asked
unfoldable pub added : List ℕ → ℕ → Request → Left
unfolding sheet_fault checked_of placed
added buf len q = choose (ltb (length buf) len) (refuse CountOverStore buf) (judged buf len q (sheet_fault (take len buf)))

-- a call that came to l answers r and leaves buf'
pub record Writes (l : Left) (r : Amount) (buf' : List ℕ) : Type 0 where
  pub answers : r ≡ l.answer
  pub leaves : buf' ≡ l.buffer

-- the contracts of `start` and `add`
abbrev pub Starts : List ℕ → Amount → List ℕ → Type 0
Starts buf r buf' = Writes (started buf) r buf'

abbrev pub Adds : List ℕ → ℕ → Bool → ℕ → Fields → List ℕ → Amount → List ℕ → Type 0
Adds buf len d kind f payload r buf' = Writes (added buf len (requested d kind f payload)) r buf'
