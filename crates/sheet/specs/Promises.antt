-- What is promised of the kinds of records and of a reading (demand 3), at real bitmaps. Proved in proofs/: Steps, Papers and Readings.
use Rattle.std.specs.Prelude.{ℕ, ◌*◌, ◌≤◌, ◌<◌, ◌≡◌, true, false, List, ◌++◌, ◌↔◌, ◌⊎◌, length, get_or, leb}
use Rattle.std.proofs.Math.Option.{none, some}
use Rattle.word.specs.Sets.{choose}
use Rattle.word.specs.Places.{member}
use Rattle.storage.specs.Refusals.{number_of}
use Rattle.storage.specs.Stores.{Bits, Bounded, no_words, space_of, held}
use Rattle.storage.specs.Guards.{most_words, Stopped, Passed}
use Rattle.storage.specs.declared.Bitmap.{Bitmap}
use Rattle.storage.specs.declared.Refusal.{Refusal}
use Rattle.bitwise.specs.Promises.{Reversed}
use Rattle.shifts.specs.Promises.{RotatedLeft, RotatedRight}
use Rattle.bitmaps.specs.Promises.{WithBit, WithoutBit, WithRegion, WithField}
use Rattle.shapes.specs.Promises.{FlippedFrom, RaisedBy, LoweredBy, ResizedTo}
use Rattle.gap.specs.Promises.{Opens, Closes}
use Rattle.sheet.specs.Kinds.{size_in, known, known_number, known_bytes, kind_of, payload_of, Ranged}
use Rattle.sheet.specs.Paper.{IsEdition, paper_line, Allowed, digits, cell_digits, byte_digits}
use Rattle.editions.specs.Frames.{Item}
use Rattle.editions.specs.Reader.{stop, next}
use Rattle.editions.specs.Meaning.{Asks, AtRecord, Newer, Applies, Accepted}
use Rattle.sheet.specs.Reads.{edition_of, fitting, Reads, reading_number, reading_record, reading_count}
use Rattle.sheet.specs.declared.Edit.{Edit}
use Rattle.sheet.specs.declared.Edit.TheVariants.{Set, Unset, SetRegion, SetField, Shift, Rotate, Resize, Reverse, ToggleRegion, Open, Close}
use Rattle.sheet.specs.Kinds.{Known}
use Rattle.sheet.specs.Reads.{Reading}

-- what each edit makes of a bitmap, as sets of numbers: direction false is left, true is right; no numbers and no digits change nothing
abbrev pub Does : Edit → Bits → Bits → Type 0
Does (Set p) b s = WithBit p b s
Does (Unset p) b s = WithoutBit p b s
Does (SetRegion v p k) b s = (k ≡ 0 → s ≡ b) × ((k ≡ 0 → ⊥) → WithRegion p v k b s)
Does (SetField p w v) b s = (w ≡ 0 → s ≡ b) × ((w ≡ 0 → ⊥) → WithField p v w b s)
Does (Shift false k) b s = RaisedBy k b s
Does (Shift true k) b s = LoweredBy k b s
Does (Rotate false k) b s = (s.count ≡ b.count) × RotatedLeft k (64 * b.count) b.members s.members
Does (Rotate true k) b s = (s.count ≡ b.count) × RotatedRight k (64 * b.count) b.members s.members
Does (Resize n) b s = ResizedTo n b s
Does Reverse b s = Reversed b s
Does (ToggleRegion p k) b s = (k ≡ 0 → s ≡ b) × ((k ≡ 0 → ⊥) → FlippedFrom p k b s)
Does (Open p k) b s = Opens p k b s
Does (Close p k) b s = Closes p k b s

-- 6, exactly: a step in c words, whichever record asks for it, is done where the result that the edit means has space, and makes that one; where it has
-- none, it is refused with 6
pub record StepExact (n c : ℕ) (e : Edit) (b : Bits) : Type 0 where
  pub done_is : (k : ℕ) (s : Bits) → ((edition_of c n).step k e b ≡ next s) ↔ (Does e b s × (s.count ≤ c))
  pub refused_is : (k : ℕ) (x : Refusal) → ((edition_of c n).step k e b ≡ stop x) ↔ ((number_of x ≡ 6) × (s : Bits) × Does e b s × (c < s.count))
  -- an edit means one result, with no member past its words
  pub one : (s t : Bits) → Does e b s → Does e b t → s ≡ t
  pub bounded : (s : Bits) → Does e b s → Bounded s

-- in every edition and in a store that 1 lets pass, of every edit whose fields are in their ranges
abbrev pub StepsExact : Type 0
StepsExact = (n c : ℕ) (e : Edit) (b : Bits) → c ≤ most_words → Bounded b → b.count ≤ c → Ranged e → StepExact n c e b

-- the line of an edit in 01's table: its kind, its bytes from its edition on, and the digits of its payload, the fields first and zeros for the unused bits
pub record AsPrinted (e : Edit) : Type 0 where
  pub kind : kind_of e ≡ (paper_line e).kind
  pub size : (n c : ℕ) → (edition_of c n).size (paper_line e).kind ≡ choose (leb (paper_line e).edition n) (some (paper_line e).bytes) none
  pub ranges : Ranged e ↔ Allowed (paper_line e).fields
  pub bytes : (length (payload_of e) ≡ (paper_line e).bytes) × ((i : ℕ) → get_or (payload_of e) i 0 < 256)
  pub unused : ℕ
  pub digits_are : Ranged e → byte_digits (payload_of e) ≡ cell_digits (paper_line e).fields ++ digits unused 0

-- the table of kinds is 01's, in every edition, and has no other kinds
pub record TableAgrees : Type 0 where
  pub lines : (e : Edit) → AsPrinted e
  pub others : (n c k m : ℕ) → (edition_of c n).size k ≡ some m → (e : Edit) × ((paper_line e).kind ≡ k)

-- an edition has a kind: the table has a line of it, of that edition or an earlier one
abbrev pub HasKind : ℕ → ℕ → Type 0
HasKind n k = (e : Edit) × ((paper_line e).kind ≡ k) × ((paper_line e).edition ≤ n)

-- `payload_bytes`: 0 and the bytes of the kind's line, or 13 exactly where the edition has none
pub record KnownIn (n k : ℕ) (r : Known) : Type 0 where
  pub bytes : (e : Edit) → (paper_line e).kind ≡ k → (paper_line e).edition ≤ n → (known_number r ≡ 0) × (known_bytes r ≡ (paper_line e).bytes)
  pub newer : ¬ HasKind n k → (known_number r ≡ 13) × (known_bytes r ≡ 0)

abbrev pub KnownExact : Type 0
KnownExact = (n k : ℕ) → KnownIn n k (known (size_in n k))

-- kind and payload are the edit's line in 01's table: values that its fields may have, its bytes, and the fields' digits in order, then zeros
pub record Laid (kind : ℕ) (p : List ℕ) (e : Edit) : Type 0 where
  pub kind_is : (paper_line e).kind ≡ kind
  pub ranged : Allowed (paper_line e).fields
  pub long : length p ≡ (paper_line e).bytes
  pub unused : ℕ
  pub digits_are : byte_digits p ≡ cell_digits (paper_line e).fields ++ digits unused 0

-- 12: in every edition, a duty record of a kind that it has asks for an edit exactly where kind and payload are the layout of that edit; so a payload of
-- another length, with an unused bit set or with a value out of its range asks for none
abbrev pub PayloadsExact : Type 0
PayloadsExact =
    (n c m : ℕ) (r : Item) (e : Edit) → r.duty ≡ true → (edition_of c n).size r.kind ≡ some m → ((i : ℕ) → get_or r.payload i 0 < 256)
    → Asks (edition_of c n) r e ↔ Laid r.kind r.payload e

-- a reading in edition n, from the bitmap b in the store ws, into the store res, which has no earlier count: none of 14, 1 and 2 applies
pub record Passes (n : ℕ) (ws : List ℕ) (b : Bitmap) (res : List ℕ) : Type 0 where
  pub edition : IsEdition n
  pub old : Passed ws b
  pub result : Passed res no_words

-- 14, then 1 and 2 for each store in order
pub data Stops (n : ℕ) (ws : List ℕ) (b : Bitmap) (res : List ℕ) (x : ℕ) : Type 0 where
  no_edition : ¬ IsEdition n → x ≡ 14 → Stops n ws b res x
  old_stopped : IsEdition n → Stopped ws b x → Stops n ws b res x
  result_stopped : IsEdition n → Passed ws b → Stopped res no_words x → Stops n ws b res x

-- the number x, the record k and the word count t that a reading answers
pub data Gets (n : ℕ) (sheet ws : List ℕ) (b : Bitmap) (res : List ℕ) (x k t : ℕ) : Type 0 where
  stops : Stops n ws b res x → k ≡ 0 → t ≡ 0 → Gets n sheet ws b res x k t
  applies : Passes n ws b res → Applies (edition_of (space_of res) n) sheet (fitting (space_of res) (held ws b)) x k → t ≡ 0 → Gets n sheet ws b res x k t
  accepted : Passes n ws b res → (s : Bits) → Accepted (edition_of (space_of res) n) sheet (fitting (space_of res) (held ws b)) k s → x ≡ 0 → t ≡ s.count
      → Gets n sheet ws b res x k t

-- demand 3's condition: the old bitmap fits, all earlier records are sound and applied, and record k, its frame whole, is a duty record of a kind that
-- the edition lacks
abbrev pub NamesNewer : ℕ → List ℕ → List ℕ → Bitmap → List ℕ → ℕ → Type 0
NamesNewer n sheet ws b res k =
    let E = edition_of (space_of res) n in
    Passes n ws b res × AtRecord E sheet (fitting (space_of res) (held ws b)) k (Newer E sheet)

-- an accepted sheet: its duty records' edits in order have made the bitmap that stands in the result store
pub record MadeResult (n : ℕ) (sheet ws : List ℕ) (b : Bitmap) (res : List ℕ) (k t : ℕ) (res' : List ℕ) : Type 0 where
  pub passes : Passes n ws b res
  pub state : Bits
  pub accepted : Accepted (edition_of (space_of res) n) sheet (fitting (space_of res) (held ws b)) k state
  pub count : t ≡ state.count
  pub space : t ≤ length res
  pub bounded : Bounded state
  pub long : length res' ≡ length res
  pub members : (i : ℕ) → i < 64 * t → member res' i ≡ state.members i
  pub zeros : (j : ℕ) → t ≤ j → get_or res' j 0 ≡ 0

-- what a reading answers and leaves, whatever it is given
pub record ReadingMeans (n : ℕ) (sheet ws : List ℕ) (b : Bitmap) (res : List ℕ) (r : Reading) (res' : List ℕ) : Type 0 where
  -- (a): what an accepted reading has made
  pub made : reading_number r ≡ 0 → MadeResult n sheet ws b res (reading_record r) (reading_count r) res'
  -- (c): number, record and word count, exactly where they are due
  pub exact : (x k t : ℕ) → ((reading_number r ≡ x) × (reading_record r ≡ k) × (reading_count r ≡ t)) ↔ Gets n sheet ws b res x k t
  -- the old bitmap, or 6 exactly where its count is above the result store
  pub fits : b.count ≤ length res → fitting (space_of res) (held ws b) ≡ next (held ws b)
  pub lacks : length res < b.count → (why : Refusal) × (fitting (space_of res) (held ws b) ≡ stop why) × (number_of why ≡ 6)
  -- 13 names the first duty record of a kind that the edition lacks
  pub newer : (k : ℕ) → ((reading_number r ≡ 13) × (reading_record r ≡ k)) ↔ NamesNewer n sheet ws b res k
  -- 14, 1 and 2 touch nothing; any later refusal leaves zeros
  pub untouched : (x : ℕ) → Stops n ws b res x → res' ≡ res
  pub cleared : Passes n ws b res → 0 < reading_number r → (length res' ≡ length res) × ((j : ℕ) → get_or res' j 0 ≡ 0)

abbrev pub ReadsMean : Type 0
ReadsMean =
    (n : ℕ) (sheet ws : List ℕ) (b : Bitmap) (res : List ℕ) (r : Reading) (res' : List ℕ) → Reads n sheet ws b res r res' → ReadingMeans n sheet ws b res r res'

-- two readings with one number, record and word count
abbrev pub SameAnswer : Reading → Reading → Type 0
SameAnswer r s = (reading_number r ≡ reading_number s) × (reading_record r ≡ reading_record s) × (reading_count r ≡ reading_count s)

-- (b): two readings of one sheet and old bitmap, into stores of one size, of equal words where 1 or 2 applies: the earlier edition gives the later's
-- answer and words, or names a newer kind
abbrev pub KeepsMeaning : Type 0
KeepsMeaning =
    (e f : ℕ) → IsEdition e → IsEdition f → e ≤ f → (sheet ws : List ℕ) (b : Bitmap) (res₁ res₂ : List ℕ) → length res₁ ≡ length res₂
    → ((x : ℕ) → Stops e ws b res₁ x → res₁ ≡ res₂) → (r₁ r₂ : Reading) (res₁' res₂' : List ℕ)
    → Reads e sheet ws b res₁ r₁ res₁' → Reads f sheet ws b res₂ r₂ res₂'
    → (SameAnswer r₁ r₂ × (res₁' ≡ res₂')) ⊎ ((reading_number r₁ ≡ 13) × NamesNewer e sheet ws b res₁ (reading_record r₁))
