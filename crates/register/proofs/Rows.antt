-- The lines of a bitmap's register: each has 73 bytes, and the line of a run that is known by its bounds.
use mathlib.Core.Path.{◌≡◌, sym, ap, ◌∙◌}
use mathlib.Core.Bool.{Bool, true, false}
use mathlib.Core.List.{List, [], ◌∷◌}
use Prim.Native.Nat.{ℕ, zero, suc, ◌+◌, ◌-◌, ◌*◌, ◌/◌, ◌%◌, ◌≤◌, ◌<◌}
use native.Mathlib.Omega.{arith}
use lib.Dec.{eqb}
use lib.ListN.{length, drop, length-append}
use borrow.Author.Tests.{lt-ltb, le-ltb, eq-eqb, ne_eqb}
use Rattle.word.specs.Sets.{choose}
use Rattle.word.proofs.Cases.{by_lt}
use Rattle.word.proofs.Sets.{count-le}
use Rattle.storage.specs.Stores.{Bits, Bounded, size}
use Rattle.storage.specs.Guards.{most_words}
use Rattle.text.specs.Lists.{Range, range}
use Rattle.print.specs.Texts.{runs, size_of}
use Rattle.print.specs.declared.Run.{Run}
use Rattle.register.specs.Register.{line, ended, row_of, pages_for, pages_of, foot_of, line_of, lines_of}
use Rattle.register.specs.Kernels.{Narrow, Ahead, row_for}
use Rattle.register.proofs.Lines.{length-line, length-ended}
use Rattle.register.proofs.Ahead.{Below, cons, drop_below, all_below, runs-most, ahead_none, ahead_some}

-- ---- pages

pub pages_few : (n : ℕ) → pages_for n ≤ n + 1
unfolding pages_for
pages_few n = omega arith

-- ---- the bitmaps that a store may hold

module _ (b : Bits) (bound : Bounded b) (small : b.count ≤ most_words) where
  pub size_narrow : Narrow (size b)
  unfolding size
  size_narrow = omega (arith, count-le b.members (64 * b.count))

  pub pages_narrow : Narrow (pages_of b)
  pages_narrow = omega (arith, pages_few (length (runs b)), runs-most b bound)

  length-row : (rs : List Range) → Below (64 * b.count) rs → length (row_of rs) ≡ 73
  unfolding row_of
  length-row [] x = length-ended 72
  length-row (r ∷ rs) (cons l h x) = length-line _ _ _ (omega arith) (omega arith) (omega arith)

  length-foot : (p : ℕ) → p ≤ pages_of b → length (foot_of b p) ≡ 73
  unfolding foot_of
  length-foot p h = length-line _ _ _ (omega (arith, pages_narrow)) pages_narrow size_narrow

  pub length-line_of : (k : ℕ) → k < 50 * pages_of b → length (line_of b k) ≡ 73
  unfolding line_of
  length-line_of k h = go (eqb (k % 50) 49)
    where
      go : (t : Bool) → length (choose t (foot_of b (k / 50 + 1)) (row_of (drop (k - k / 50) (runs b)))) ≡ 73
      go true = length-foot (k / 50 + 1) (omega arith)
      go false = length-row (drop (k - k / 50) (runs b)) (drop_below (k - k / 50) (runs b) (all_below b bound))

  pub length-lines : (k : ℕ) → k ≤ 50 * pages_of b → length (lines_of b k) ≡ 73 * k
  unfolding lines_of
  length-lines zero h = omega arith
  length-lines (suc k) h = length-append (lines_of b k) (line_of b k) ∙ omega (arith, length-lines k (omega arith), length-line_of k (omega arith))

-- ---- one line

module _ (b : Bits) (k : ℕ) where
  pub foot-line : k % 50 ≡ 49 → foot_of b (k / 50 + 1) ≡ line_of b k
  unfolding line_of
  foot-line e = sym (ap (λ (t : Bool). choose t (foot_of b (k / 50 + 1)) (row_of (drop (k - k / 50) (runs b)))) (eq-eqb (k % 50) 49 e))

  pub row_line : (k % 50 ≡ 49 → ⊥) → row_of (drop (k - k / 50) (runs b)) ≡ line_of b k
  unfolding line_of
  row_line e = sym (ap (λ (t : Bool). choose t (foot_of b (k / 50 + 1)) (row_of (drop (k - k / 50) (runs b)))) (ne_eqb (k % 50) 49 e))

-- the row of a run by its bounds
pub row_some : (r : Run) → r.low < r.end → line r.low (r.end - 1) (r.end - r.low) ≡ row_for r
row_some r h = sym (ap (λ (t : Bool). choose t (line r.low (r.end - 1) (r.end - r.low)) (ended 72)) (lt-ltb r.low r.end h))

pub row_none : (r : Run) → r.end ≤ r.low → ended 72 ≡ row_for r
row_none r h = sym (ap (λ (t : Bool). choose t (line r.low (r.end - 1) (r.end - r.low)) (ended 72)) (le-ltb r.low r.end h))

pub row_ahead : (b : Bits) → Bounded b → (n : ℕ) (run : Run) → Ahead b n run → row_for run ≡ row_of (drop n (runs b))
unfolding row_of
row_ahead b bound n run g =
    by_lt run.low run.end
    (λ h.
    let e : run.end - run.low ≡ size_of (range run.low (run.end - 1)) = omega arith in
    sym (row_some run h) ∙ ap (line run.low (run.end - 1)) e ∙ ap row_of (sym (ahead_some b bound n run g h).1))
    (λ h. sym (row_none run h) ∙ ap row_of (sym (ahead_none b bound n run g h)))
