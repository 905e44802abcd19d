-- The printed register by its lines (02, T-03): which text is a bitmap's, and what a reader takes off it. Its bytes and numbers are typed from the paper.
use Rattle.std.specs.Prelude.{ℕ, suc, ◌+◌, ◌*◌, ◌%◌, ◌≤◌, ◌<◌, ◌≡◌, List, [], ◌∷◌, ◌++◌, length, take, drop}
use Rattle.storage.specs.Stores.{Bits}
use Rattle.scans.specs.Promises.{AllCounted}
use Rattle.text.specs.Lists.{Range}
use Rattle.print.specs.Forms.{Runs, Figures}

-- so many blanks
pub data Blanks : ℕ → List ℕ → Type 0 where
  none : Blanks 0 []
  blank : {k : ℕ} {t : List ℕ} → Blanks k t → Blanks (suc k) (32 ∷ t)

-- a number right-aligned in 12 bytes
pub data Column : List ℕ → ℕ → Type 0 where
  aligned : {u t : List ℕ} {k n : ℕ} → Blanks k u → Figures t n → k + length t ≡ 12 → Column (u ++ t) n

-- a line of three numbers: three columns, 36 blanks and byte 10
pub data Row : List ℕ → ℕ → ℕ → ℕ → Type 0 where
  row : {t u v w : List ℕ} {a b c : ℕ} → Column t a → Column u b → Column v c → Blanks 36 w → Row (t ++ (u ++ (v ++ (w ++ 10 ∷ [])))) a b c

-- a line without a number
pub data BlankRow : List ℕ → Type 0 where
  unused : {w : List ℕ} → Blanks 72 w → BlankRow (w ++ 10 ∷ [])

-- line k of a text, from 0: 72 bytes and the byte at its end
abbrev pub line_at : List ℕ → ℕ → List ℕ
line_at t k = take 73 (drop (73 * k) t)

-- number i of some runs, from 0
pub data Nth : List Range → ℕ → Range → Type 0 where
  here : {r : Range} {rs : List Range} → Nth (r ∷ rs) 0 r
  later : {q r : Range} {rs : List Range} {i : ℕ} → Nth rs i r → Nth (q ∷ rs) (suc i) r

-- n runs take so many pages: one at least, room for all, and a page after the first only where the pages before it are full and a run is left
pub record Paged (n pages : ℕ) : Type 0 where
  pub some : 0 < pages
  pub all : n ≤ 49 * pages
  pub full : (k : ℕ) → 0 < k → k < pages → 49 * k < n

-- t is the register of b: line j of page k, from 0, has run number 49 * k + j or is blank where there is none; the last line is the foot
pub record IsRegister (b : Bits) (t : List ℕ) : Type 0 where
  pub runs : List Range
  pub pages : ℕ
  pub members : ℕ
  pub maximal : Runs b.members 0 runs
  pub counted : AllCounted b members
  pub bytes : length t ≡ 73 * (50 * pages)
  pub paged : Paged (length runs) pages
  pub run : (k j size : ℕ) (r : Range) → k < pages → j < 49 → Nth runs (49 * k + j) r → r.low + size ≡ r.high + 1
      → Row (line_at t (50 * k + j)) r.low r.high size
  pub blank : (k j : ℕ) → k < pages → j < 49 → length runs ≤ 49 * k + j → BlankRow (line_at t (50 * k + j))
  pub foot : (k : ℕ) → k < pages → Row (line_at t (50 * k + 49)) (k + 1) pages members

-- three numbers that stand on a line
pub record Entry : Type 0 where
  pub first : ℕ
  pub last : ℕ
  pub size : ℕ

-- what a reader takes off the first n lines of a text, feet left out, in their order
pub data Taken (t : List ℕ) : ℕ → List Entry → Type 0 where
  start : Taken t 0 []
  entry : {n a b c : ℕ} {es : List Entry} → Taken t n es → n % 50 < 49 → Row (line_at t n) a b c → Taken t (suc n) (es ++ record { first = a; last = b; size = c } ∷ [])
  blank : {n : ℕ} {es : List Entry} → Taken t n es → n % 50 < 49 → BlankRow (line_at t n) → Taken t (suc n) es
  foot : {n a b c : ℕ} {es : List Entry} → Taken t n es → n % 50 ≡ 49 → Row (line_at t n) a b c → Taken t (suc n) es

-- entries say runs, each its ends and how many numbers it has
pub data Say : List Entry → List Range → Type 0 where
  none : Say [] []
  one : {a b n : ℕ} {es : List Entry} {rs : List Range} → a + n ≡ b + 1 → Say es rs
      → Say (record { first = a; last = b; size = n } ∷ es) (record { low = a; high = b } ∷ rs)

-- the sum of the sizes
pub data Sums : List Entry → ℕ → Type 0 where
  none : Sums [] 0
  one : {e : Entry} {es : List Entry} {n : ℕ} → Sums es n → Sums (e ∷ es) (e.size + n)
