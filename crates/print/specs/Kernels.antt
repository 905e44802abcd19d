-- What serves the contracts of private functions: runs found, bytes put.
use Rattle.std.specs.Prelude.{ℕ, zero, suc, ◌+◌, ◌-◌, ◌≤◌, ◌<◌, ◌≡◌, Bool, true, false, List, [], ◌∷◌, ◌++◌, length, drop}
use Rattle.style.specs.declared.Style.{Style}
use Rattle.text.specs.Lists.{list_limit, Range, range}
use Rattle.print.specs.Texts.{gap, others, text}
use Rattle.print.specs.declared.Run.{Run}

-- the next run of s from i on, below e: its first number and the number after its last; none where they are the same
pub record NextRun (s : ℕ → Bool) (e i : ℕ) (r : Run) : Type 0 where
  pub from : i ≤ r.low
  pub order : r.low ≤ r.end
  pub within : r.end ≤ e
  pub before : (j : ℕ) → i ≤ j → j < r.low → s j ≡ false
  pub all : (j : ℕ) → r.low ≤ j → j < r.end → s j ≡ true
  pub stops : r.low < r.end → s r.end ≡ false
  pub none : r.low ≡ r.end → r.end ≡ e

-- a run as a range
abbrev pub range_of : Run → Range
range_of r = range r.low (r.end - 1)

-- a run of one number or more, none past the limit
pub record Printable (r : Run) : Type 0 where
  pub some : r.low < r.end
  pub limit : r.end ≤ list_limit + 1

-- what stands before a piece, where `at` bytes came before
abbrev pub separator : Bool → ℕ → List ℕ
separator b zero = []
separator b (suc at) = gap b

-- what is printed of pieces, where `at` bytes came before
abbrev pub pieces_at : Style → ℕ → List Range → List ℕ
pieces_at y zero ps = text y ps
pieces_at y (suc at) ps = others y ps

-- the bytes t at a place
unfoldable pub put_at : ℕ → List ℕ → List ℕ → List ℕ
put_at zero t out = t ++ drop (length t) out
put_at (suc at) t [] = []
put_at (suc at) t (c ∷ out) = c ∷ put_at at t out

-- r is the place after them
pub record Puts (at : ℕ) (t : List ℕ) (r : ℕ) (out out' : List ℕ) : Type 0 where
  pub next : r ≡ at + length t
  pub leaves : out' ≡ put_at at t out
