-- What serves the contracts of private functions: numbers that have room in a column, the run that comes next.
use Rattle.std.specs.Prelude.{ℕ, ◌-◌, ◌*◌, ◌/◌, ◌≤◌, ◌<◌, ◌≡◌, List, ltb, length, drop}
use Rattle.word.specs.Sets.{choose}
use Rattle.storage.specs.Stores.{Bits, size}
use Rattle.print.specs.Texts.{runs}
use Rattle.print.specs.Kernels.{NextRun}
use Rattle.print.specs.Forms.{Runs}
use Rattle.print.specs.declared.Run.{Run}
use Rattle.register.specs.Register.{ended, line, pages_of}

-- a number of ten digits at most
abbrev pub Narrow : ℕ → Type 0
Narrow x = x < 10_000_000_000

-- the line of a run by its first number and the one after its last
abbrev pub row_for : Run → List ℕ
row_for r = choose (ltb r.low r.end) (line r.low (r.end - 1) (r.end - r.low)) (ended 72)

-- the run is the first of those that come after the first n
pub record Ahead (b : Bits) (n : ℕ) (run : Run) : Type 0 where
  pub i : ℕ
  pub next : NextRun b.members (64 * b.count) i run
  pub left : Runs b.members i (drop n (runs b))

-- the run is the one for line k or, where that is a foot, for the line after it
abbrev pub NextLine : Bits → ℕ → Run → Type 0
NextLine b k run = Ahead b (k - k / 50) run

-- the totals of a bitmap, and a buffer with room for its register
pub record Ready (b : Bits) (pages count : ℕ) (out : List ℕ) : Type 0 where
  pub pages_are : pages ≡ pages_of b
  pub count_is : count ≡ size b
  pub room : 73 * (50 * pages) ≤ length out
