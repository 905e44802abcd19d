-- What serves the contracts of private functions: the code's numbers as a token's state, walks over a text.
use Rattle.std.specs.Prelude.{ℕ, zero, suc, ◌≡◌, ◌||◌, List, length, Result, Ok, Err}
use Rattle.text.specs.declared.Fault.{Fault}
use Rattle.word.specs.Places.{member, words_of}
use Rattle.style.specs.declared.Style.{Style}
use Rattle.text.specs.Lists.{Range, covers, highest}
use Rattle.text.specs.Readings as read
use Rattle.text.specs.Readings.{NumberSoFar, Unread, Open, Closed, Left, Alone, From, Parsed, no_list, ranges, parse}
use Rattle.text.specs.declared.Part.{Part}
use Rattle.text.specs.declared.Step.{Step}
use Rattle.text.specs.declared.Step.TheVariants.{Go, Ends, Stop}

-- phase 0, 1 or 2, and the number so far
abbrev pub number_so_far : ℕ → ℕ → NumberSoFar
number_so_far zero v = Unread
number_so_far (suc zero) v = Open v
number_so_far (suc (suc k)) v = Closed v

-- whether a joiner came, and the number before it
abbrev pub left_of : ℕ → ℕ → Left
left_of zero a = Alone
left_of (suc k) a = From a

abbrev pub part_of : Part → read.Part
part_of p = read.part (left_of p.split p.left) (number_so_far p.phase p.value)

abbrev pub step_of : Step → read.Step
step_of (Go p) = read.Go (part_of p)
step_of Ends = read.Ends
step_of (Stop e) = read.Stop e

-- the largest number of a text, if it is a list
abbrev pub Measured : Type 0
Measured = Result ℕ Fault

abbrev pub measured_of : Parsed → Measured
measured_of (no_list e) = Err e
measured_of (ranges rs) = Ok (highest rs)

-- the words with the numbers of the ranges, as far as they go
unfoldable pub marked : List Range → List ℕ → List ℕ
marked rs ws = words_of (λ i. member ws i || covers rs i) (length ws)

-- the text is measured, and the ranges of its good tokens are marked: those of all of them, where it is a list
pub record Walked (y : Style) (t : List ℕ) (r : Measured) (ws ws' : List ℕ) : Type 0 where
  pub measures : r ≡ measured_of (parse y t)
  pub passed : List Range
  pub whole : (rs : List Range) → parse y t ≡ ranges rs → passed ≡ rs
  pub marks : ws' ≡ marked passed ws
