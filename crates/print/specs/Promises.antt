-- What printed list text promises, in words of its own. Each is proved in proofs/Promises, `PlainAsBefore` in proofs/Plain.
use Rattle.std.specs.Prelude.{ℕ, ◌+◌, ◌*◌, ◌≤◌, ◌<◌, ◌≡◌, true, false, List, [], ◌↔◌, ◌⊎◌, length, take, drop}
use Rattle.storage.specs.Refusals.{number_of, answer_number, amount_value, change_number, change_record}
use Rattle.storage.specs.Stores.{Bits, Bounded, refused, Space, view, held, Changes}
use Rattle.storage.specs.Guards.{most_words, Passed}
use Rattle.storage.specs.Promises.{Guarded, LeastCount, HandsNone}
use Rattle.storage.specs.declared.Bitmap.{Bitmap}
use Rattle.storage.specs.declared.Refusal.{Refusal}
use Rattle.style.specs.Styles.{plain_style}
use Rattle.style.specs.Promises.{Allowed, GuardedStyle}
use Rattle.style.specs.declared.Style.{Style}
use Rattle.text.specs.Lists.{Range}
use Rattle.text.specs.Grammar.{Digits, Listed}
use Rattle.text.specs.Plain as base-text
use Rattle.text.specs.Readings.{reading_list}
use Rattle.text.specs.Promises.{Within, PlainReads}
use Rattle.print.specs.Forms.{Runs, Figures, IsText}
use Rattle.print.specs.Plain as base
use Rattle.print.specs.Texts.{runs, AnswersRun, decimal, decimal_len, PutsDecimal, text_of, Prints}
use Rattle.print.specs.declared.Run.{Run}
use Rattle.storage.specs.Refusals.{Amount, Change}

-- t means the number n, with the fewest digits
pub record Shortest (n : ℕ) (t : List ℕ) : Type 0 where
  pub means : Digits t n
  pub least : (u : List ℕ) → Digits u n → length t ≤ length u

-- a number is printed with the fewest digits that mean it
abbrev pub PrintsShortest : Type 0
PrintsShortest = (n : ℕ) → Shortest n (decimal n)

-- the runs of b are the maximal ones, which cover exactly the set; there is no other list of them
pub record RunsOf (b : Bits) : Type 0 where
  pub maximal : Runs b.members 0 (runs b)
  pub cover : (i : ℕ) → Within (runs b) i ↔ (b.members i ≡ true)
  pub only : (rs : List Range) → Runs b.members 0 rs → rs ≡ runs b

-- what is printed
abbrev pub PrintsRuns : Type 0
PrintsRuns = (b : Bits) → Bounded b → RunsOf b

-- the numbers from low on, below end, are the next run from i on, and no longer one; where there are none of them, they stand at the length, and no member
-- is left from i on
pub record IsNext (b : Bits) (i low end : ℕ) : Type 0 where
  pub order : low ≤ end
  pub some : low < end
      → (i ≤ low) × ((j : ℕ) → i ≤ j → j < low → b.members j ≡ false) × ((j : ℕ) → low ≤ j → j < end → b.members j ≡ true) × (b.members end ≡ false)
  pub none : low ≡ end → (end ≡ 64 * b.count) × ((j : ℕ) → i ≤ j → b.members j ≡ false)

-- `run_from`, from its contract: none at 0 where 1 or 2 applies
abbrev pub RunFromMeans : Type 0
RunFromMeans =
    (ws : List ℕ) (b : Bitmap) (i : ℕ) (r : Run) → AnswersRun ws b i r
    → Guarded ws b (λ k. (r.low ≡ 0) × (r.end ≡ 0)) (IsNext (held ws b) i r.low r.end)

-- `decimal_len`, from its contract: as many as the figures of x, whatever x is
abbrev pub DecimalLenMeans : Type 0
DecimalLenMeans = (x r : ℕ) → r ≡ decimal_len x → (t : List ℕ) × Figures t x × (r ≡ length t)

-- the figures t stand at a place, and every other byte is as it was
pub record FiguresPut (t : List ℕ) (at r : ℕ) (out out' : List ℕ) : Type 0 where
  pub next : r ≡ at + length t
  pub before : take at out' ≡ take at out
  pub there : take (length t) (drop at out') ≡ t
  pub behind : drop r out' ≡ drop r out

-- `put_decimal`, from its contract: the figures of x, exactly where there is room for them
abbrev pub PutDecimalMeans : Type 0
PutDecimalMeans =
    (at x r : ℕ) (out out' : List ℕ) → PutsDecimal at x r out out'
    → (t : List ℕ) × Figures t x
    × (((at + length t ≤ length out) × FiguresPut t at r out out') ⊎ ((length out < at + length t) × (r ≡ at) × (out' ≡ out)))

-- the text of a bitmap is of that form, and no other text is
abbrev pub PrintsOne : Type 0
PrintsOne = (y : Style) → Allowed y → (b : Bits) → Bounded b → (t : List ℕ) → IsText y b.members t ↔ (t ≡ text_of y b)

-- The call, by the number x that it answers, the length v and the buffer's bytes out' afterwards.

-- refused with k: no byte is written
pub record NotPrinted (out : List ℕ) (x v : ℕ) (out' : List ℕ) (k : ℕ) : Type 0 where
  pub hands : HandsNone x v k
  pub bytes : out' ≡ out

-- the text t stands at the buffer's front, and the bytes past it are as they were
pub record TextPut (t out : List ℕ) (x v : ℕ) (out' : List ℕ) : Type 0 where
  pub number : x ≡ 0
  pub value : v ≡ length t
  pub front : take v out' ≡ t
  pub past : drop v out' ≡ drop v out

-- a text of the form is put, or 6 exactly where the buffer has fewer bytes
abbrev pub PutOrShort : (List ℕ → Type 0) → List ℕ → ℕ → ℕ → List ℕ → Type 0
PutOrShort form out x v out' =
    (t : List ℕ) × form t × (((length t ≤ length out) × TextPut t out x v out') ⊎ ((length out < length t) × NotPrinted out x v out' 6))

-- 1, then 2, then 15; then the text or 6
abbrev pub PrintsText : Style → List ℕ → Bitmap → List ℕ → ℕ → ℕ → List ℕ → Type 0
PrintsText y ws b out x v out' =
    Guarded ws b (NotPrinted out x v out')
    (GuardedStyle y (NotPrinted out x v out' 15) (PutOrShort (IsText y (held ws b).members) out x v out'))

-- `write_list`, from its contract
abbrev pub WriteListMeans : Type 0
WriteListMeans =
    (y : Style) (ws : List ℕ) (b : Bitmap) (out : List ℕ) (r : Amount) (out' : List ℕ) → Prints y ws b out r out'
    → PrintsText y ws b out (answer_number r) (amount_value r) out'

-- where neither 1 nor 2 applies: 15 exactly where the style is not allowed, whatever the set and the buffer are
abbrev pub RefusesStyle : Type 0
RefusesStyle =
    (y : Style) (ws : List ℕ) (b : Bitmap) (out : List ℕ) (r : Amount) (out' : List ℕ) → Passed ws b → Prints y ws b out r out'
    → (Allowed y → ⊥) ↔ (answer_number r ≡ 15)

-- a set with no member prints no byte, which is refused with 7; the text of any other is a list of the grammar, and lists its members
pub record TextOf (y : Style) (b : Bits) : Type 0 where
  pub empty : ((i : ℕ) → b.members i ≡ false) → text_of y b ≡ []
  pub refused : (c : Space) (old : Bits) → (e : Refusal) × (reading_list y [] c old ≡ refused e) × (number_of e ≡ 7)
  pub some : (i : ℕ) → b.members i ≡ true → (rs : List Range) × Listed y (text_of y b) rs × ((j : ℕ) → Within rs j ↔ (b.members j ≡ true))

-- of every bitmap that a store may hold
abbrev pub TextMeans : Type 0
TextMeans = (y : Style) → Allowed y → (b : Bits) → Bounded b → b.count ≤ most_words → TextOf y b

-- whatever the style: a text that was printed is read back in it, into any bitmap, where the store has the m words that its members need at least: the
-- same members, in those words
abbrev pub ReadsBack : Type 0
ReadsBack =
    (y : Style) (ws : List ℕ) (b : Bitmap) (i : ℕ) (out out' : List ℕ) (a : Amount) → Passed ws b → (held ws b).members i ≡ true
    → Prints y ws b out a out' → answer_number a ≡ 0
    → (us us' : List ℕ) (o : Bitmap) (r : Change) (m : ℕ) → Passed us o → LeastCount (held ws b).members b.count m → m ≤ length us
    → Changes (reading_list y (take (amount_value a) out')) us o r us'
    → (change_number r ≡ 0) × ((change_record r).count ≡ m) × ((j : ℕ) → (view us' m).members j ≡ (held ws b).members j)

-- the plain style is read and printed as document 01 says: the one text of its printed form, a list of the runs, by the call too
pub record PlainAsBefore : Type 0 where
  pub reads : PlainReads
  pub text : (b : Bits) → Bounded b → (t : List ℕ) → base.IsText b.members t ↔ (t ≡ text_of plain_style b)
  pub lists : (b : Bits) → Bounded b → b.count ≤ most_words → (i : ℕ) → b.members i ≡ true → base-text.Listed (text_of plain_style b) (runs b)
  pub prints : (ws : List ℕ) (b : Bitmap) (out : List ℕ) (r : Amount) (out' : List ℕ) → Prints plain_style ws b out r out'
      → Guarded ws b (NotPrinted out (answer_number r) (amount_value r) out')
      (PutOrShort (base.IsText (held ws b).members) out (answer_number r) (amount_value r) out')
