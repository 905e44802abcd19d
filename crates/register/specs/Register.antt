-- `write_register`: a bitmap as pages of 50 lines, a maximal run on a line, upward, and a foot on the last (02, T-03).
use Rattle.std.specs.Prelude.{ℕ, zero, suc, ◌+◌, ◌-◌, ◌*◌, ◌/◌, ◌%◌, max, ◌≡◌, List, [], ◌∷◌, ◌++◌, eqb, length, drop, replicate, Err}
use Rattle.word.specs.Sets.{choose}
use Rattle.storage.specs.Stores.{Bits, reading, size}
use Rattle.storage.specs.declared.Bitmap.{Bitmap}
use Rattle.text.specs.Lists.{space, Range}
use Rattle.print.specs.Texts.{runs, decimal, size_of, fitted, replaced}
use Rattle.storage.specs.Refusals.{Amount}

-- the byte at a line's end
abbrev pub line_end : ℕ
line_end = 10

-- a number, right-aligned in 12 bytes
unfoldable pub column : ℕ → List ℕ
column n = replicate (12 - length (decimal n)) space ++ decimal n

-- n blanks and the line's end
unfoldable pub ended : ℕ → List ℕ
ended n = replicate n space ++ line_end ∷ []

-- a line of three numbers
unfoldable pub line : ℕ → ℕ → ℕ → List ℕ
line a b c = column a ++ (column b ++ (column c ++ ended 36))

-- the line of the first of some runs: first bit, last, size; blank where there is none
unfoldable pub row_of : List Range → List ℕ
row_of [] = ended 72
row_of (r ∷ rs) = line r.low r.high (size_of r)

-- the pages of n runs: 49 on each but the last, and one page where there is none
unfoldable pub pages_for : ℕ → ℕ
pages_for n = max 1 ((n + 48) / 49)

-- the pages of a bitmap
abbrev pub pages_of : Bits → ℕ
pages_of b = pages_for (length (runs b))

-- the foot of page p: the page, the pages, and how many bits are set
unfoldable pub foot_of : Bits → ℕ → List ℕ
foot_of b p = line p (pages_of b) (size b)

-- line k of a bitmap, from 0: each fiftieth is a page's foot; the others have the runs, k - k / 50 of them before
unfoldable pub line_of : Bits → ℕ → List ℕ
line_of b k =
    let foot = foot_of b (k / 50 + 1) in
    let row = row_of (drop (k - k / 50) (runs b)) in
    choose (eqb (k % 50) 49) foot row

-- the first n lines
unfoldable pub lines_of : Bits → ℕ → List ℕ
lines_of b zero = []
lines_of b (suc n) = lines_of b n ++ line_of b n

-- the register of a bitmap
abbrev pub register_of : Bits → List ℕ
register_of b = lines_of b (50 * pages_of b)

-- its length, or 6 where the buffer has fewer bytes; and the buffer afterwards
abbrev pub register_answer : List ℕ → Bits → Amount
register_answer out s = fitted (register_of s) out

abbrev pub register_buffer : List ℕ → Bits → List ℕ
register_buffer out s = replaced (register_of s) out

-- a call on the bitmap b in ws answers r, and makes out' of the buffer out: 1, then 2, then 6
pub record Registers (ws : List ℕ) (b : Bitmap) (out : List ℕ) (r : Amount) (out' : List ℕ) : Type 0 where
  pub answers : r ≡ reading ws b Err (register_answer out)
  pub leaves : out' ≡ reading ws b (λ e. out) (register_buffer out)
