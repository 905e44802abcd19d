-- What is promised of the writer (demand 3), of the contracts of its calls. Proved in proofs/: Requests and Writings.
use Rattle.std.specs.Prelude.{ℕ, ◌+◌, ◌≤◌, ◌<◌, ◌≡◌, true, false, List, [], ◌∷◌, ◌↔◌, ◌⊎◌, length, take, drop}
use Rattle.std.proofs.Math.Option.{none, some}
use Rattle.std.proofs.Math.ListN.{get_elem?}
use Rattle.storage.specs.Stores.{Bits, space_of, held, written}
use Rattle.storage.specs.declared.Bitmap.{Bitmap}
use Rattle.sheet.specs.Paper.{paper_line, values, given}
use Rattle.editions.specs.Frames.{Item}
use Rattle.editions.specs.Reader.{next}
use Rattle.editions.specs.Meaning.{Header, total, start, Is, effect}
use Rattle.editions.specs.Promises.{SheetGets}
use Rattle.sheet.specs.Promises.{Laid, Passes}
use Rattle.sheet.specs.Reads.{edition_of, latest, Reads, reading_number, reading_record, reading_count}
use Rattle.plain.specs.Writer.{Request, duty, remark, Entry, edit, note, Starts, Adds}
use Rattle.plain.specs.Plain.{sheet_of, edits_in, edit_for, Ask, Typed, Call, InRow, answers, last_length, last_buffer, plain_answers, last_plain}
use Rattle.sheet.specs.declared.Fields.{Fields}
use Rattle.sheet.specs.Reads.{Reading}
use Rattle.storage.specs.Refusals.{Amount, amount_value, answer_number}

-- the plain sheet's edit of a kind has its fields where 01's table has them
abbrev pub FieldsAgree : Type 0
FieldsAgree = (k : ℕ) (f : Fields) → 1 ≤ k → k ≤ 11 → ((paper_line (edit_for k f)).kind ≡ k) × (values (paper_line (edit_for k f)).fields ≡ given k f)

-- 13, 3 or 4 of a duty record that is asked for by its kind and fields, or 0
pub data DutyGets (k : ℕ) (f : Fields) (x : ℕ) : Type 0 where
  no_kind : (k < 1) ⊎ (11 < k) → x ≡ 13 → DutyGets k f x
  wide : k ≡ 4 → 64 < f.width → x ≡ 3 → DutyGets k f x
  large : k ≡ 7 → 4_294_967_296 < f.size → x ≡ 4 → DutyGets k f x
  good_duty : 1 ≤ k → k ≤ 11 → (k ≡ 4 → f.width ≤ 64) → (k ≡ 7 → f.size ≤ 4_294_967_296) → x ≡ 0 → DutyGets k f x

-- 13 or 12 of a remark, or 0
pub data RemarkGets (k : ℕ) (p : List ℕ) (x : ℕ) : Type 0 where
  high : 127 < k → x ≡ 13 → RemarkGets k p x
  over_long : k ≤ 127 → 65_535 < length p → x ≡ 12 → RemarkGets k p x
  good_remark : k ≤ 127 → length p ≤ 65_535 → x ≡ 0 → RemarkGets k p x

abbrev pub RequestGets : Request → ℕ → Type 0
RequestGets (duty k f) x = DutyGets k f x
RequestGets (remark k p) x = RemarkGets k p x

-- the bytes of the payload asked for; of a duty record those of its line in 01's table
abbrev pub bytes_asked : Request → ℕ
bytes_asked (duty k f) = (paper_line (edit_for k f)).bytes
bytes_asked (remark k p) = length p

-- what an addition to the first len bytes of the buffer answers, number and length: 2, then the sheet's faults, then the request's, then 6
pub data AddGets (buf : List ℕ) (len : ℕ) (q : Request) (x n : ℕ) : Type 0 where
  over : length buf < len → x ≡ 2 → n ≡ 0 → AddGets buf len q x n
  fault : len ≤ length buf → SheetGets (take len buf) x → 0 < x → n ≡ 0 → AddGets buf len q x n
  wrong : len ≤ length buf → SheetGets (take len buf) 0 → RequestGets q x → 0 < x → n ≡ 0 → AddGets buf len q x n
  full : len ≤ length buf → SheetGets (take len buf) 0 → RequestGets q 0
      → (65_535 ≤ total (take len buf)) ⊎ (length buf < len + 3 + bytes_asked q) → x ≡ 6 → n ≡ 0 → AddGets buf len q x n
  fine : len ≤ length buf → SheetGets (take len buf) 0 → RequestGets q 0
      → total (take len buf) < 65_535 → len + 3 + bytes_asked q ≤ length buf → x ≡ 0 → n ≡ len + 3 + bytes_asked q → AddGets buf len q x n

-- a refused call changes nothing, and the bytes past the new sheet are untouched
pub record LeavesRest (buf : List ℕ) (r : Amount) (buf' : List ℕ) : Type 0 where
  pub kept : 0 < answer_number r → buf' ≡ buf
  pub long : length buf' ≡ length buf
  pub past : answer_number r ≡ 0 → drop (amount_value r) buf' ≡ drop (amount_value r) buf

-- the record is the one asked for: duty, kind, and a remark's payload or, of a duty record, the layout of its edit, where the fields are in their types' ranges
abbrev pub Wanted : Request → Item → Type 0
Wanted (duty k f) r = (r.duty ≡ true) × (r.kind ≡ k) × (Typed f → Laid k r.payload (edit_for k f))
Wanted (remark k p) r = (r.duty ≡ false) × (r.kind ≡ k) × (r.payload ≡ p)

-- a sheet after an accepted addition, whoever made it: R is one more, the earlier records are as they were, the one asked for is last, and nothing
-- follows it
pub record Grows (sheet : List ℕ) (q : Request) (sheet' : List ℕ) : Type 0 where
  pub headed : Header sheet'
  pub raised : total sheet' ≡ total sheet + 1
  pub kept : (i : ℕ) (r : Item) → i < total sheet → Is sheet i r ↔ Is sheet' i r
  pub last : (r : Item) × Is sheet' (total sheet) r × Wanted q r
  pub ends : start sheet' (total sheet + 1) ≡ length sheet'

-- what an addition answers and leaves, whatever it is given
pub record AddMeans (buf : List ℕ) (len : ℕ) (q : Request) (r : Amount) (buf' : List ℕ) : Type 0 where
  pub exact : (x n : ℕ) → ((answer_number r ≡ x) × (amount_value r ≡ n)) ↔ AddGets buf len q x n
  pub leaves : LeavesRest buf r buf'
  pub grows : answer_number r ≡ 0 → Grows (take len buf) q (take (amount_value r) buf')

-- `add` asks for a duty record by its kind and fields, or for a remark by its kind and payload; what is not its own is ignored
pub record AddsMean : Type 0 where
  pub duties : (buf : List ℕ) (len kind : ℕ) (f : Fields) (payload : List ℕ) (r : Amount) (buf' : List ℕ)
      → Adds buf len true kind f payload r buf' → AddMeans buf len (duty kind f) r buf'
  pub remarks : (buf : List ℕ) (len kind : ℕ) (f : Fields) (payload : List ℕ) (r : Amount) (buf' : List ℕ)
      → Adds buf len false kind f payload r buf' → AddMeans buf len (remark kind payload) r buf'

-- the record is the one held: a remark's kind and payload, or the layout of an edit
abbrev pub Shows : Entry → Item → Type 0
Shows (edit e) r = (r.duty ≡ true) × Laid r.kind r.payload e
Shows (note k p) r = (r.duty ≡ false) × (r.kind ≡ k) × (r.payload ≡ p)

-- bytes that hold exactly these records, in order
pub record Holding (sheet : List ℕ) (es : List Entry) : Type 0 where
  pub headed : Header sheet
  pub many : total sheet ≡ length es
  pub records : (i : ℕ) (x : Entry) → get_elem? es i ≡ some x → (r : Item) × Is sheet i r × Shows x r
  pub ends : start sheet (length es) ≡ length sheet

-- what a start answers
pub data StartGets (buf : List ℕ) (x n : ℕ) : Type 0 where
  short : length buf < 4 → x ≡ 6 → n ≡ 0 → StartGets buf x n
  fresh : 4 ≤ length buf → x ≡ 0 → n ≡ 4 → StartGets buf x n

-- it leaves a sheet of no records
pub record StartMeans (buf : List ℕ) (r : Amount) (buf' : List ℕ) : Type 0 where
  pub exact : (x n : ℕ) → ((answer_number r ≡ x) × (amount_value r ≡ n)) ↔ StartGets buf x n
  pub leaves : LeavesRest buf r buf'
  pub empty : answer_number r ≡ 0 → Holding (take 4 buf') []

abbrev pub StartsMean : Type 0
StartsMean = (buf : List ℕ) (r : Amount) (buf' : List ℕ) → Starts buf r buf' → StartMeans buf r buf'

-- a start among the calls was accepted
pub data Begun : List Call → Type 0 where
  here : {c : Call} {cs : List Call} → c.ask ≡ Ask.start → answer_number c.answer ≡ 0 → Begun (c ∷ cs)
  later : {c : Call} {cs : List Call} → Begun cs → Begun (c ∷ cs)

-- (e): after a list of calls from a buffer of any bytes at length 0 on
pub record ListMeans (buf : List ℕ) (cs : List Call) : Type 0 where
  -- each call answered the plain sheet's number and length
  pub same : answers cs ≡ plain_answers none cs
  -- it holds records exactly where a start was accepted
  pub begun : Begun cs ↔ ((es : List Entry) × (last_plain none cs ≡ some es))
  -- then the bytes up to the last accepted length are the plain sheet's
  pub length_is : (es : List Entry) → last_plain none cs ≡ some es → last_length 0 cs ≡ length (sheet_of es)
  pub bytes_are : (es : List Entry) → last_plain none cs ≡ some es → take (last_length 0 cs) (last_buffer buf cs) ≡ sheet_of es
  -- which hold exactly its records
  pub laid : (es : List Entry) → last_plain none cs ≡ some es → Holding (sheet_of es) es
  -- and the latest edition accepts them with the effect of exactly its edits in order
  pub effect_is : (es : List Entry) → last_plain none cs ≡ some es
      → (ws : List ℕ) (b : Bitmap) (res : List ℕ) (r : Reading) (res' : List ℕ) → Passes latest ws b res → b.count ≤ length res
      → (t : Bits) → effect (edition_of (space_of res) latest) (edits_in es) (held ws b) ≡ next t
      → Reads latest (take (last_length 0 cs) (last_buffer buf cs)) ws b res r res'
      → (reading_number r ≡ 0) × (reading_record r ≡ length es) × (reading_count r ≡ t.count) × (res' ≡ written res (length res) t)

abbrev pub WholeLists : Type 0
WholeLists = (buf : List ℕ) (cs : List Call) → InRow buf 0 cs → ListMeans buf cs
