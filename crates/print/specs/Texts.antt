-- `write_list`: the text of a set in a style, from its maximal runs upward; and what other prints share with it, the next run and a number's digits.
use Rattle.std.specs.Prelude.{ℕ, zero, suc, ◌+◌, ◌-◌, ◌*◌, ◌/◌, ◌%◌, ◌≡◌, Bool, true, false, List, [], ◌∷◌, ◌++◌, ltb, leb, eqb, length, take, drop, Ok, Err}
use Rattle.word.specs.Sets.{choose}
use Rattle.storage.specs.Stores.{Bits, reading}
use Rattle.storage.specs.declared.Bitmap.{Bitmap}
use Rattle.storage.specs.declared.Refusal.TheVariants.{NoSpace, BadStyle}
use Rattle.style.specs.Styles.{allowed}
use Rattle.style.specs.declared.Style.{Style}
use Rattle.text.specs.Lists.{comma, space, zero_digit, Range, range}
use Rattle.print.specs.declared.Run.{Run}
use Rattle.storage.specs.Refusals.{Amount}

-- where the run began that is open, if one is
pub data Opened : Type 0 where
  Nowhere : Opened
  From : ℕ → Opened

-- the runs of s among the d numbers from i on; one that is open began at o
abbrev pub begun : Opened → ℕ → Opened
begun Nowhere i = From i
begun (From a) i = From a

abbrev pub closed : Opened → ℕ → List Range → List Range
closed Nowhere i rs = rs
closed (From a) i rs = range a (i - 1) ∷ rs

unfoldable pub runs_from : (ℕ → Bool) → Opened → ℕ → ℕ → List Range
runs_from s o zero i = closed o i []
runs_from s o (suc d) i =
    let on = runs_from s (begun o i) d (suc i) in
    let off = closed o i (runs_from s Nowhere d (suc i)) in
    choose (s i) on off

-- the runs of a bitmap
abbrev pub runs : Bits → List Range
runs b = runs_from b.members Nowhere (64 * b.count) 0

-- the first of some runs below e, as its first number and the number after its last; none at e where there is no run
abbrev pub first_run : ℕ → List Range → Run
first_run e [] = record { low = e; end = e }
first_run e (r ∷ rs) = record { low = r.low; end = r.high + 1 }

-- the next run of a bitmap from i on
unfoldable pub run_from : Bits → ℕ → Run
run_from b i = first_run (64 * b.count) (runs_from b.members Nowhere (64 * b.count - i) i)

-- what is answered where 1 or 2 applies
abbrev pub no_run : Run
no_run = record { low = 0; end = 0 }

-- `run_from` of the bitmap b in ws, from i on, answers r
abbrev pub AnswersRun : List ℕ → Bitmap → ℕ → Run → Type 0
AnswersRun ws b i r = r ≡ reading ws b (λ e. no_run) (λ s. run_from s i)

-- the digits of n, the first not 0; f bounds their number
unfoldable pub decimal_from : ℕ → ℕ → List ℕ
decimal_from zero n = (zero_digit + n % 10) ∷ []
decimal_from (suc f) n =
    let front = decimal_from f (n / 10) ++ (zero_digit + n % 10) ∷ [] in
    choose (ltb n 10) ((zero_digit + n % 10) ∷ []) front

abbrev pub decimal : ℕ → List ℕ
decimal n = decimal_from n n

-- how many digits n has
abbrev pub decimal_len : ℕ → ℕ
decimal_len n = length (decimal n)

-- a buffer with the digits of x at a place
unfoldable pub decimal_at : ℕ → ℕ → List ℕ → List ℕ
decimal_at at x out = take at out ++ (decimal x ++ drop (at + length (decimal x)) out)

-- they are put where the buffer has room for them; r is the place after them
pub record PutsDecimal (at x r : ℕ) (out out' : List ℕ) : Type 0 where
  pub next : r ≡ choose (leb (at + length (decimal x)) (length out)) (at + length (decimal x)) at
  pub leaves : out' ≡ choose (leb (at + length (decimal x)) (length out)) (decimal_at at x out) out

-- how many numbers a range has
abbrev pub size_of : Range → ℕ
size_of r = suc r.high - r.low

-- the n numbers from a on, each a range by itself
unfoldable pub singles : ℕ → ℕ → List Range
singles a zero = []
singles a (suc n) = range a a ∷ singles (suc a) n

-- a run as it is written: whole, or number by number where it has fewer than k
abbrev pub cut : ℕ → Range → List Range
cut k r = choose (ltb (size_of r) k) (singles r.low (size_of r)) (r ∷ [])

unfoldable pub pieces : ℕ → List Range → List Range
pieces k [] = []
pieces k (r ∷ rs) = cut k r ++ pieces k rs

-- one piece: one number, or two at the joiner, each a bit plus the first number
unfoldable pub printed : Style → Range → List ℕ
printed y r =
    let pair = decimal (r.low + y.first) ++ y.joiner ∷ decimal (r.high + y.first) in
    choose (eqb r.low r.high) (decimal (r.low + y.first)) pair

-- what stands between two pieces, with a blank or without
abbrev pub gap : Bool → List ℕ
gap true = comma ∷ space ∷ []
gap false = comma ∷ []

-- the pieces after the first
unfoldable pub others : Style → List Range → List ℕ
others y [] = []
others y (r ∷ rs) = gap y.blank ++ (printed y r ++ others y rs)

unfoldable pub text : Style → List Range → List ℕ
text y [] = []
text y (r ∷ rs) = printed y r ++ others y rs

-- the text of a bitmap in a style
abbrev pub text_of : Style → Bits → List ℕ
text_of y b = text y (pieces y.shortest (runs b))

-- the text's length, or 6 where the buffer has fewer bytes
abbrev pub fitted : List ℕ → List ℕ → Amount
fitted t out = choose (leb (length t) (length out)) (Ok (length t)) (Err NoSpace)

-- the text at the buffer's front, the bytes past it as they were; the whole buffer as it was where the text does not fit
abbrev pub replaced : List ℕ → List ℕ → List ℕ
replaced t out = choose (leb (length t) (length out)) (t ++ drop (length t) out) out

-- 15 and the buffer as it was where the style is not allowed, before all else
abbrev pub list_answer : Style → List ℕ → Bits → Amount
list_answer y out s = choose (allowed y) (fitted (text_of y s) out) (Err BadStyle)

abbrev pub list_buffer : Style → List ℕ → Bits → List ℕ
list_buffer y out s = choose (allowed y) (replaced (text_of y s) out) out

-- a call on the bitmap b in ws answers r, and makes out' of the buffer out
pub record Prints (y : Style) (ws : List ℕ) (b : Bitmap) (out : List ℕ) (r : Amount) (out' : List ℕ) : Type 0 where
  pub answers : r ≡ reading ws b Err (list_answer y out)
  pub leaves : out' ≡ reading ws b (λ e. out) (list_buffer y out)
