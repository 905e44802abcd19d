-- The plain sheet (01): it is fed sizes and what is asked, sees no buffer's bytes and is given no length. And lists of calls.
use Rattle.std.specs.Prelude.{ℕ, zero, suc, ◌<◌, ◌^◌, ◌≡◌, Bool, true, false, ◌&&◌, ◌||◌, List, [], ◌∷◌, ◌++◌, length, take, leb, ltb, eqb}
use Rattle.std.proofs.Math.Option.{Option, none, some}
use Rattle.word.specs.Sets.{choose}
use Rattle.sheet.specs.Bytes.{bytes}
use Rattle.plain.specs.Writer.{Request, duty, remark, Entry, edit, note, bytes_of, Starts, Adds}
use Rattle.sheet.specs.declared.Edit.{Edit}
use Rattle.sheet.specs.declared.Edit.TheVariants.{Set, Unset, SetRegion, SetField, Shift, Rotate, Resize, Reverse, ToggleRegion, Open, Close}
use Rattle.sheet.specs.declared.Fields.{Fields}
use Rattle.storage.specs.Refusals.{Amount, amount_value, answer_number}

-- an addition as the plain sheet reads it: duty or a remark; fields that a record does not have are ignored
abbrev pub asked : Bool → ℕ → Fields → List ℕ → Request
asked true kind f payload = duty kind f
asked false kind f payload = remark kind payload

-- none before an accepted start, then its records
abbrev pub Plain : Type 0
Plain = Option (List Entry)

unfoldable pub body : List Entry → List ℕ
body [] = []
body (e ∷ es) = bytes_of e ++ body es

-- its bytes: N, S, the record count in 16 bits, and the records as they are laid out
unfoldable pub sheet_of : List Entry → List ℕ
unfolding bytes body
sheet_of es = 78 ∷ 83 ∷ bytes 2 (length es) ++ body es

-- its edits are its duty records, here with the numbers of the records, of which n come before
unfoldable pub edits_after : ℕ → List Entry → List (ℕ × Edit)
edits_after n [] = []
edits_after n (edit e ∷ es) = (suc n, e) ∷ edits_after (suc n) es
edits_after n (note k p ∷ es) = edits_after (suc n) es

abbrev pub edits_in : List Entry → List (ℕ × Edit)
edits_in es = edits_after 0 es

-- 13: a duty kind that is not 1 to 11, or a remark's over 127
abbrev pub wrong_kind : Request → Bool
wrong_kind (duty k f) = eqb k 0 || ltb 11 k
wrong_kind (remark k p) = ltb 127 k

-- 3: a width over 64, in a duty record of kind 4
abbrev pub wrong_width : Request → Bool
wrong_width (duty k f) = eqb k 4 && ltb 64 f.width
wrong_width (remark k p) = false

-- 4: a resize over 4,294,967,296 bits, in a duty record of kind 7
abbrev pub wrong_size : Request → Bool
wrong_size (duty k f) = eqb k 7 && ltb 4_294_967_296 f.size
wrong_size (remark k p) = false

-- 12: a remark's payload over 65,535 bytes
abbrev pub wrong_payload : Request → Bool
wrong_payload (duty k f) = false
wrong_payload (remark k p) = ltb 65_535 (length p)

-- 6: 65,535 records are held, or the bytes would pass the size
abbrev pub no_room : ℕ → List Entry → Entry → Bool
no_room size es e = leb 65_535 (length es) || ltb size (length (sheet_of (es ++ e ∷ [])))

-- the first number that applies, 0 where none does
unfoldable pub first_of : List (Bool × ℕ) → ℕ
first_of [] = 0
first_of ((applies, n) ∷ rest) = choose applies n (first_of rest)

-- the number of a request, whatever is held
unfoldable pub refusal_of : Request → ℕ
unfolding first_of
refusal_of q = first_of ((wrong_kind q, 13) ∷ (wrong_width q, 3) ∷ (wrong_size q, 4) ∷ (wrong_payload q, 12) ∷ [])

-- the edit of a kind by its fields, 1 to 11
unfoldable pub edit_for : ℕ → Fields → Edit
edit_for k f =
    choose (eqb k 1) (Set f.p) (choose (eqb k 2) (Unset f.p) (choose (eqb k 3) (SetRegion f.flag f.p f.k)
    (choose (eqb k 4) (SetField f.p f.width f.value) (choose (eqb k 5) (Shift f.flag f.k) (choose (eqb k 6) (Rotate f.flag f.k)
    (choose (eqb k 7) (Resize f.size) (choose (eqb k 8) Reverse (choose (eqb k 9) (ToggleRegion f.p f.k)
    (choose (eqb k 10) (Open f.p f.k) (Close f.p f.k))))))))))

-- the record that a good request asks for
unfoldable pub entry_of : Request → Entry
unfolding edit_for
entry_of (duty k f) = edit (edit_for k f)
entry_of (remark k p) = note k p

-- its answer, the number and, if accepted, the length (else 0), and what it holds then
pub record Answered : Type 0 where
  pub number : ℕ
  pub long : ℕ
  pub plain : Plain

abbrev pub refusing : ℕ → Plain → Answered
refusing n p = record { number = n; long = 0; plain = p }

abbrev pub accepting : List Entry → Answered
accepting es = record { number = 0; long = length (sheet_of es); plain = some es }

-- an addition with its request's number
abbrev pub holding : ℕ → List Entry → Entry → ℕ → Answered
holding size es e zero = choose (no_room size es e) (refusing 6 (some es)) (accepting (es ++ e ∷ []))
holding size es e (suc n) = refusing (suc n) (some es)

-- what is asked of the writer
pub data Ask : Type 0 where
  start : Ask
  addition : Bool → ℕ → Fields → List ℕ → Ask

-- the plain sheet's answer to a call on a buffer of a size
unfoldable pub answered : ℕ → Ask → Plain → Answered
unfolding sheet_of
answered size start p = choose (ltb size 4) (refusing 6 p) (accepting [])
answered size (addition d kind f payload) none = refusing 9 none
answered size (addition d kind f payload) (some es) =
    let q = asked d kind f payload in
    holding size es (entry_of q) (refusal_of q)

-- a call as it went: the buffer that it got, what was asked, what it answered, and the buffer that it left
pub record Call : Type 0 where
  pub buffer : List ℕ
  pub ask : Ask
  pub answer : Amount
  pub after : List ℕ

-- the fields are in the ranges of their types
abbrev pub Typed : Fields → Type 0
Typed f = (f.p < 2 ^ 32) × (f.k < 2 ^ 32) × (f.value < 2 ^ 64)

-- it met the contract of `start` or of `add`, which gets the last accepted length
abbrev pub Went : ℕ → List ℕ → Ask → Amount → List ℕ → Type 0
Went len buf start r buf' = Starts buf r buf'
Went len buf (addition d kind f payload) r buf' = Adds buf len d kind f payload r buf' × Typed f

-- the last accepted length after an answer
abbrev pub length_after : ℕ → Amount → ℕ
length_after len r = choose (eqb (answer_number r) 0) (amount_value r) len

-- each call got the buffer as the last one left it, or another with the same bytes up to the last accepted length
unfoldable pub InRow : List ℕ → ℕ → List Call → Type 0
InRow buf len [] = Unit {0}
InRow buf len (c ∷ cs) =
    (take len c.buffer ≡ take len buf) × Went len c.buffer c.ask c.answer c.after × InRow c.after (length_after len c.answer) cs

-- the numbers and lengths that the calls answered, the last accepted length, and the buffer as the last call left it
unfoldable pub answers : List Call → List (ℕ × ℕ)
answers [] = []
answers (c ∷ cs) = (answer_number c.answer, amount_value c.answer) ∷ answers cs

unfoldable pub last_length : ℕ → List Call → ℕ
last_length len [] = len
last_length len (c ∷ cs) = last_length (length_after len c.answer) cs

unfoldable pub last_buffer : List ℕ → List Call → List ℕ
last_buffer buf [] = buf
last_buffer buf (c ∷ cs) = last_buffer c.after cs

-- what the plain sheet answers, and what it holds at the end
unfoldable pub plain_answers : Plain → List Call → List (ℕ × ℕ)
unfolding answered
plain_answers p [] = []
plain_answers p (c ∷ cs) = let a = answered (length c.buffer) c.ask p in (a.number, a.long) ∷ plain_answers a.plain cs

unfoldable pub last_plain : Plain → List Call → Plain
unfolding answered
last_plain p [] = p
last_plain p (c ∷ cs) = last_plain (answered (length c.buffer) c.ask p).plain cs
