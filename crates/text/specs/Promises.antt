-- What reading list text promises, in words of its own. Each is proved in proofs/Promises, `FirstsDecide` in proofs/Decides, `ReadsListExact` in proofs/Once,
-- `PlainReads` in proofs/Plain.
use Rattle.std.specs.Prelude.{ℕ, ◌+◌, ◌/◌, ◌≤◌, ◌<◌, ◌≡◌, true, List, [], ◌∷◌, ◌++◌, ◌⊎◌, ◌↔◌, eqb, length, get_or}
use Rattle.word.specs.Sets.{choose}
use Rattle.storage.specs.Refusals.{number_of, change_number}
use Rattle.storage.specs.Stores.{Bits, Outcome, done, refused, Bounded, Changes}
use Rattle.storage.specs.Guards.{most_words, Passed}
use Rattle.storage.specs.Promises.{Meets, MeetsExactly}
use Rattle.storage.specs.declared.Bitmap.{Bitmap}
use Rattle.storage.specs.declared.Refusal.{Refusal}
use Rattle.style.specs.Styles.{plain_style}
use Rattle.style.specs.Promises.{Allowed}
use Rattle.style.specs.declared.Style.{Style}
use Rattle.text.specs.Lists.{Range}
use Rattle.text.specs.Grammar.{Blank, Digit, Blanks, Digits, Numeral, Token, Listed}
use Rattle.text.specs.Faults.{Free, NumberOver, NotList}
use Rattle.text.specs.Plain as base
use Rattle.text.specs.Readings.{no_list, ranges, parse, reading_list}
use Rattle.text.specs.declared.Fault.{Fault}
use Rattle.text.specs.declared.Fault.TheVariants.{Slip, Huge}
use Rattle.storage.specs.Refusals.{Change}

-- reading in an allowed style, both ways: a text is read as ranges exactly where the grammar gives it those, and is refused for a slip or a huge number
-- exactly where its first bad token is no token or is huge
pub record ReadsGrammar : Type 0 where
  pub accepted : (y : Style) → Allowed y → (t : List ℕ) (rs : List Range) → Listed y t rs ↔ (parse y t ≡ ranges rs)
  pub slip : (y : Style) → Allowed y → (t : List ℕ) → NotList y t ↔ (parse y t ≡ no_list Slip)
  pub huge : (y : Style) → Allowed y → (t : List ℕ) → NumberOver y t ↔ (parse y t ≡ no_list Huge)

-- digits by themselves: the bit is the number less the first one; a number below the first is a slip, and the limit rises by as much
pub record ReadsNumbers : Type 0 where
  pub bit : (y : Style) → Allowed y → {d : List ℕ} {a : ℕ} → Digits d (a + y.first) → a ≤ 4_294_967_295 → parse y d ≡ ranges (record { low = a; high = a } ∷ [])
  pub below : (y : Style) → Allowed y → {d : List ℕ} {v : ℕ} → Digits d v → v < y.first → parse y d ≡ no_list Slip
  pub above : (y : Style) → Allowed y → {d : List ℕ} {v : ℕ} → Digits d v → 4_294_967_295 + y.first < v → parse y d ≡ no_list Huge

-- digits are no number, however large, where another byte stands behind them, or blanks and a digit, whatever follows
pub record WholeNumbers : Type 0 where
  pub broken : (y : Style) → Allowed y → {d : List ℕ} {v : ℕ} → Digits d v → (c : ℕ) → (Digit c → ⊥) → (Blank c → ⊥) → (c ≡ y.joiner → ⊥) → (c ≡ 44 → ⊥) → (t : List ℕ)
      → parse y (d ++ c ∷ t) ≡ no_list Slip
  pub parted : (y : Style) → Allowed y → {d : List ℕ} {v : ℕ} → Digits d v → (c : ℕ) → Blank c → {w : List ℕ} → Blanks w → (k : ℕ) → Digit k → (t : List ℕ)
      → parse y (d ++ c ∷ (w ++ k ∷ t)) ≡ no_list Slip

-- what is refused alone is refused so with more behind it: a token whatever follows its comma, a token's left number whatever is right of the joiner. And
-- behind a good one, a token or a left number, the rest is refused as it is alone
pub record FirstDecides (y : Style) (e : Fault) : Type 0 where
  pub token : (t u : List ℕ) → Free 44 t → parse y t ≡ no_list e → parse y (t ++ 44 ∷ u) ≡ no_list e
  pub left : (t u : List ℕ) → Free 44 (t ++ y.joiner ∷ u) → Free y.joiner t → parse y t ≡ no_list e → parse y (t ++ y.joiner ∷ u) ≡ no_list e
  pub next : (t u : List ℕ) (r : Range) → Token y t r → (Blanks u → ⊥) → parse y u ≡ no_list e → parse y (t ++ 44 ∷ u) ≡ no_list e
  pub right : (t u : List ℕ) (a : ℕ) → Numeral y t a → Free 44 (t ++ y.joiner ∷ u) → Free y.joiner u → parse y u ≡ no_list e → parse y (t ++ y.joiner ∷ u) ≡ no_list e

abbrev pub FirstsDecide : Type 0
FirstsDecide = (y : Style) → Allowed y → (e : Fault) → FirstDecides y e

-- i lies in one of the ranges
abbrev pub Within : List Range → ℕ → Type 0
Within [] i = ⊥
Within (r ∷ rs) i = ((r.low ≤ i) × (i ≤ r.high)) ⊎ Within rs i

-- the set read: the union of the ranges, in the fewest words that hold it
pub record Union (rs : List Range) (s : Bits) : Type 0 where
  pub members : (i : ℕ) → Within rs i ↔ (s.members i ≡ true)
  pub holds : (i : ℕ) → Within rs i → i / 64 < s.count
  pub least : (n : ℕ) → ((i : ℕ) → Within rs i → i / 64 < n) → s.count ≤ n

-- some byte is 128 or more
abbrev pub High : List ℕ → Type 0
High t = (k : ℕ) × (k < length t) × (128 ≤ get_or t k 0)

-- Of a grammar `lists`, which says of which ranges a text is a list:

abbrev pub NoList : (List ℕ → List Range → Type 0) → List ℕ → Type 0
NoList lists t = (rs : List Range) → lists t rs → ⊥

-- a text is a list, or has a slip, or a number over: one of them always and no two, and the last two together are exactly what is no list
pub record OneOfThree (y : Style) (t : List ℕ) : Type 0 where
  pub one : ((rs : List Range) × Listed y t rs) ⊎ (NotList y t ⊎ NumberOver y t)
  pub apart : NotList y t → NumberOver y t → ⊥
  pub together : (NotList y t ⊎ NumberOver y t) ↔ NoList (Listed y) t

abbrev pub TellsApart : Type 0
TellsApart = (y : Style) → Allowed y → (t : List ℕ) → OneOfThree y t

-- the text lists a number whose word is past c words
abbrev pub Past : (List ℕ → List Range → Type 0) → List ℕ → ℕ → Type 0
Past lists t c = (rs : List Range) × lists t rs × ((i : ℕ) × Within rs i × (c ≤ i / 64))

-- what is done: every byte is below 128, the text is a list, and the set is its
abbrev pub ReadAs : (List ℕ → List Range → Type 0) → List ℕ → ℕ → Bits → Bits → Type 0
ReadAs lists t c b s = (High t → ⊥) × ((rs : List Range) × lists t rs × Union rs s)

-- as document 01 numbers it: 8, then 7, then 6, each exactly where its condition holds
abbrev pub RefusedAs : (List ℕ → List Range → Type 0) → List ℕ → ℕ → Bits → ℕ → Type 0
RefusedAs lists t c b k = ((k ≡ 8) × High t) ⊎ (((k ≡ 7) × (High t → ⊥) × NoList lists t) ⊎ ((k ≡ 6) × (High t → ⊥) × Past lists t c))

-- in a style: 15 exactly where it is not allowed, before all else
abbrev pub ListRead : Style → List ℕ → ℕ → Bits → Bits → Type 0
ListRead y t c b s = Allowed y × ReadAs (Listed y) t c b s

-- then 8, then 7 or 16, then 6
abbrev pub TextRefused : Style → List ℕ → ℕ → ℕ → Type 0
TextRefused y t c k =
    ((k ≡ 8) × High t) ⊎ ((High t → ⊥) × (((k ≡ 7) × NotList y t) ⊎ (((k ≡ 16) × NumberOver y t) ⊎ ((k ≡ 6) × Past (Listed y) t c))))

abbrev pub ListRefused : Style → List ℕ → ℕ → Bits → ℕ → Type 0
ListRefused y t c b k = ((k ≡ 15) × (Allowed y → ⊥)) ⊎ (Allowed y × TextRefused y t c k)

-- `from_list`
abbrev pub ReadsList : Type 0
ReadsList = (y : Style) (t : List ℕ) → Meets (reading_list y t) (ListRead y t) (ListRefused y t)

-- and it is exact: done where there is a result as said, with space, and refused with a number where its condition holds
abbrev pub ReadsListExact : Type 0
ReadsListExact = (y : Style) (t : List ℕ) → MeetsExactly (reading_list y t) (ListRead y t) (ListRefused y t)

-- the call, where neither 1 nor 2 applies: 15 exactly where the style is not allowed, whatever the text, the set and the store are
abbrev pub RefusesStyle : Type 0
RefusesStyle =
    (y : Style) (t ws ws' : List ℕ) (b : Bitmap) (r : Change) → Passed ws b → Changes (reading_list y t) ws b r ws' → (Allowed y → ⊥) ↔ (change_number r ≡ 15)

-- digits stand in the text that mean a number above the limit
pub record Shows (y : Style) (t : List ℕ) : Type 0 where
  pub front : List ℕ
  pub digits : List ℕ
  pub back : List ℕ
  pub number : ℕ
  pub stand : t ≡ front ++ digits ++ back
  pub mean : Digits digits number
  pub above : 4_294_967_295 + y.first < number

-- the call: who gets 16 finds such digits
abbrev pub ShowsHuge : Type 0
ShowsHuge = (y : Style) (t ws ws' : List ℕ) (b : Bitmap) (r : Change) → Passed ws b → Changes (reading_list y t) ws b r ws' → change_number r ≡ 16 → Shows y t

-- document 01 has one number for every text that is no list
abbrev pub before : ℕ → ℕ
before k = choose (eqb k 16) 7 k

-- done, and refused with the number k of document 01
pub record AsBefore (t : List ℕ) (c : ℕ) (b : Bits) (o : Outcome) : Type 0 where
  pub done_is : (s : Bits) → (o ≡ done s) ↔ (ReadAs base.Listed t c b s × (s.count ≤ c))
  pub refused_is : (k : ℕ) → ((e : Refusal) × (o ≡ refused e) × (before (number_of e) ≡ k)) ↔ RefusedAs base.Listed t c b k

-- the plain style is read as document 01 says, exactly, with 16 for a part of its 7
abbrev pub PlainReads : Type 0
PlainReads = (t : List ℕ) (c : ℕ) (b : Bits) → c ≤ most_words → b.count ≤ c → Bounded b → AsBefore t c b (reading_list plain_style t c b)
