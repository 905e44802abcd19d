-- A reading into a store: what each edit does to a bitmap, what is answered, and what every word of the result store is afterwards.
use Rattle.std.specs.Prelude.{ℕ, ◌≡◌, Bool, ◌&&◌, List, length, leb, Result, Ok, Err}
use Rattle.word.specs.Sets.{choose}
use Rattle.storage.specs.Refusals.{number_of}
use Rattle.storage.specs.Stores.{Bits, Outcome, refused, done, Space, Op, no_words, with_count, space_of, checked, view, held, written, zeroed}
use Rattle.storage.specs.declared.Bitmap.{Bitmap}
use Rattle.storage.specs.declared.Refusal.{Refusal}
use Rattle.storage.specs.declared.Refusal.TheVariants.{NoSpace, NoEdition}
use Rattle.bitwise.specs.Bitwise.{reversing}
use Rattle.shifts.specs.Shifts.{rotating_left, rotating_right}
use Rattle.bitmaps.specs.Bitmaps.{setting, unsetting, setting_region, setting_field}
use Rattle.shapes.specs.Shapes.{toggling_region, raising, lowering, resizing}
use Rattle.gap.specs.Gaps.{opening, closing}
use Rattle.sheet.specs.Kinds.{size_in, rule_of}
use Rattle.editions.specs.Reader.{Edition, Turn, stop, next, Answer, refused, done, read}
use Rattle.sheet.specs.declared.Edit.{Edit}
use Rattle.sheet.specs.declared.ReadError.{ReadError}
use Rattle.sheet.specs.declared.Edit.TheVariants.{Set, Unset, SetRegion, SetField, Shift, Rotate, Resize, Reverse, ToggleRegion, Open, Close}

-- what an edit does: the step that its kind names
unfoldable pub step : Edit → Op
step (Set p) = setting p
step (Unset p) = unsetting p
step (SetRegion v p k) = setting_region p v k
step (SetField p w v) = setting_field p v w
step (Shift right k) = choose right (lowering k) (raising k)
step (Rotate right k) = choose right (rotating_right k) (rotating_left k)
step (Resize n) = resizing n
step Reverse = reversing
step (ToggleRegion p k) = toggling_region p k
step (Open p k) = opening p k
step (Close p k) = closing p k

abbrev pub turn_of : Outcome → Turn Bits
turn_of (Outcome.refused e) = stop e
turn_of (Outcome.done s) = next s

-- an edition of the table, on bitmaps in the space c: a step goes by its edit alone, whichever record asks for it
unfoldable pub edition_of : Space → ℕ → Edition Edit Bits
edition_of c n = record { size = size_in n; rule = rule_of; step = λ k e b. turn_of (step e c b) }

-- the editions there are
abbrev pub latest : ℕ
latest = 2

abbrev pub is_edition : ℕ → Bool
is_edition n = leb 1 n && leb n latest

-- the old bitmap, or 6 where it does not fit into the space c
abbrev pub fitting : Space → Bits → Turn Bits
fitting c b = choose (leb b.count c) (next b) (stop NoSpace)

-- what a reading comes to: 14, 1 and 2 stop it before it touches anything
pub data Course : Type 0 where
  stopped : Refusal → Course
  went : Answer Bits → Course

-- a reading in edition n of a sheet, from the bitmap b in the store ws, into the store res, which has no earlier count
unfoldable pub course : ℕ → List ℕ → List ℕ → Bitmap → List ℕ → Course
unfolding checked read edition_of view
course n sheet ws b res =
    let answer = went (read (edition_of (space_of res) n) sheet (fitting (space_of res) (held ws b))) in
    choose (is_edition n) (checked ws b stopped (checked res no_words stopped answer)) (stopped NoEdition)

-- what a reading answers: the records read and the new bitmap's record, or why it is refused and its record's number
abbrev pub Reading : Type 0
Reading = Result (ℕ × Bitmap) ReadError

abbrev pub read_answer : Course → Reading
read_answer (stopped e) = Err (e, 0)
read_answer (went (refused e k)) = Err (e, k)
read_answer (went (done k s)) = Ok (k, with_count no_words s.count)

-- the result store: all zero where the sheet is refused, else the bitmap's words and zeros past its count
abbrev pub read_store : Course → List ℕ → List ℕ
read_store (stopped e) res = res
read_store (went (refused e k)) res = zeroed 0 (length res) res
read_store (went (done k s)) res = written res (length res) s

-- the contract: a reading into the store res answers r and leaves res'
pub record Reads (n : ℕ) (sheet ws : List ℕ) (b : Bitmap) (res : List ℕ) (r : Reading) (res' : List ℕ) : Type 0 where
  pub answers : r ≡ read_answer (course n sheet ws b res)
  pub leaves : res' ≡ read_store (course n sheet ws b res) res

-- of an answer its number, 0 for done, its record, and the word count, 0 where it is refused
abbrev pub reading_number : Reading → ℕ
reading_number (Ok (k, b)) = 0
reading_number (Err e) = number_of e.0

abbrev pub reading_record : Reading → ℕ
reading_record (Ok (k, b)) = k
reading_record (Err e) = e.1

abbrev pub reading_count : Reading → ℕ
reading_count (Ok (k, b)) = b.count
reading_count (Err e) = 0
