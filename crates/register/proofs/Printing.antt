-- Printing a register, line by line, and what the call comes to.
use mathlib.Core.Path.{◌≡◌, sym, ap, ap₂, ◌∙◌, subst}
use mathlib.Core.List.{List}
use Prim.Native.Nat.{ℕ, suc, ◌+◌, ◌-◌, ◌*◌, ◌/◌, ◌%◌, ◌≤◌, ◌<◌}
use native.Mathlib.Omega.{arith}
use lib.ListN.{length}
use Rattle.storage.specs.Stores.{Bits, Bounded, checked, held, reading}
use Rattle.storage.specs.Guards.{most_words, Passed}
use Rattle.storage.specs.declared.Bitmap.{Bitmap}
use Rattle.storage.specs.declared.Refusal.TheVariants.{NoSpace}
use Rattle.storage.proofs.Checks.{reading_ok, reading_stopped, reading_raised}
use Rattle.storage.proofs.Views.{bounded_view}
use Rattle.print.specs.Texts.{fitted, replaced}
use Rattle.print.specs.Kernels.{put_at}
use Rattle.print.specs.declared.Run.{Run}
use Rattle.print.proofs.Buffer.{put_then, puts_none}
use Rattle.print.proofs.Fitting.{lacks, fitting}
use Rattle.register.specs.Register.{line, pages_of, foot_of, line_of, lines_of, register_of, register_answer, register_buffer, Registers}
use Rattle.register.specs.Kernels.{Narrow, Ahead, NextLine, row_for, Ready}
use Rattle.register.proofs.Ahead.{ahead_within}
use Rattle.register.proofs.Next.{small}
use Rattle.register.proofs.Rows.{size_narrow, pages_narrow, length-line_of, length-lines, foot-line, row_line, row_ahead}
use Rattle.storage.specs.Refusals.{Amount, passing, refusing}
use Rattle.storage.specs.declared.Refused.{Refused}
use Rattle.std.specs.Prelude.{IsErr, IsErrAnd}
use Rattle.std.specs.Prelude.{Ok, Err}

-- ---- one line

module _ (b : Bits) (bound : Bounded b) (small : b.count ≤ most_words) (pages count : ℕ) (out : List ℕ) (rd : Ready b pages count out) (k : ℕ) (h : k < 50 * pages) where
  pub line-room : 73 * k + 73 ≤ length out
  line-room = omega (arith, rd.room)

  pub foot_narrow : Narrow (k / 50 + 1) × Narrow pages × Narrow count
  foot_narrow =
      let p : Narrow pages = omega (arith, pages_narrow b bound small, rd.pages_are) in
      (omega arith, p, omega (arith, size_narrow b bound small, rd.count_is))

  -- a foot: the run waits
  pub foot-put : (out' : List ℕ) → k % 50 ≡ 49 → out' ≡ put_at (73 * k) (line (k / 50 + 1) pages count) out → out' ≡ put_at (73 * k) (line_of b k) out
  unfolding foot_of
  foot-put out' e x =
      x ∙ ap (λ (t : List ℕ). put_at (73 * k) t out) (ap₂ (line (k / 50 + 1)) rd.pages_are rd.count_is ∙ foot-line b k e)

  module _ (run : Run) (g : NextLine b k run) where
    pub foot-more : k % 50 ≡ 49 → NextLine b (k + 1) run
    foot-more e = let q : k - k / 50 ≡ k + 1 - (k + 1) / 50 = omega arith in subst (λ (n : ℕ). Ahead b n run) q g

    -- any other line has it
    pub row_narrow : Narrow run.end
    row_narrow = omega (arith, ahead_within b bound (k - k / 50) run g)

    pub row_put : (out' : List ℕ) → (k % 50 ≡ 49 → ⊥) → out' ≡ put_at (73 * k) (row_for run) out → out' ≡ put_at (73 * k) (line_of b k) out
    row_put out' e x = x ∙ ap (λ (t : List ℕ). put_at (73 * k) t out) (row_ahead b bound (k - k / 50) run g ∙ row_line b k e)

    pub row_more : (run' : Run) → (k % 50 ≡ 49 → ⊥) → Ahead b (k - k / 50 + 1) run' → NextLine b (k + 1) run'
    row_more run' e x = let q : k - k / 50 + 1 ≡ k + 1 - (k + 1) / 50 = omega (arith, e) in subst (λ (n : ℕ). Ahead b n run') q x

-- ---- the first k lines stand in the buffer, and the run is the next

pub record Printing (b : Bits) (out : List ℕ) (k : ℕ) (run : Run) (out' : List ℕ) : Type 0 where
  pub next : NextLine b k run
  pub within : k ≤ 50 * pages_of b
  pub shown : out' ≡ put_at 0 (lines_of b k) out

module _ (b : Bits) (bound : Bounded b) (small : b.count ≤ most_words) (pages count : ℕ) (out : List ℕ) (rd : Ready b pages count out) where
  pub printing-start : (run : Run) → Ahead b 0 run → Printing b out 0 run out
  unfolding lines_of
  printing-start run g = record { next = g; within = omega arith; shown = (puts_none 0 out).leaves }

  module _ (k : ℕ) (run : Run) (out' : List ℕ) (g : Printing b out k run out') where
    lines_long : length (lines_of b k) ≡ 73 * k
    lines_long = length-lines b bound small k g.within

    pub printing-more : k < 50 * pages → (run' : Run) (out'' : List ℕ) → NextLine b (k + 1) run' → out'' ≡ put_at (73 * k) (line_of b k) out' → Printing b out (k + 1) run' out''
    unfolding lines_of
    printing-more h run' out'' n x =
        let l : k < 50 * pages_of b = omega (arith, rd.pages_are) in
        let e : 73 * k ≡ 0 + length (lines_of b k) = omega (arith, lines_long) in
        let s : suc k ≡ k + 1 = omega arith in
        record {
          next = n;
          within = omega arith;
          shown =
              x
              ∙ ap₂ (λ (i : ℕ) (o : List ℕ). put_at i (line_of b k) o) e g.shown
              ∙ put_then 0 (lines_of b k) (line_of b k) out (omega (arith, lines_long, length-line_of b bound small k l, rd.room, rd.pages_are))
              ∙ ap (λ (n : ℕ). put_at 0 (lines_of b n) out) s;
        }

-- ---- the call

module _ (ws : List ℕ) (b : Bitmap) (out : List ℕ) where
  pub registers_raised : {r : Amount} {e : Refused} → IsErr r × IsErrAnd r (λ x. x ≡ e.0) → Err e ≡ checked ws b (refusing b) passing → Registers ws b out r out
  registers_raised {r} {e} h q = record {
    answers = reading_raised ws b (register_answer out) h q;
    leaves = sym (reading_stopped ws b e (λ d. out) (register_buffer out) q);
  }

  module _ (p : Passed ws b) (pages : ℕ) (e : pages ≡ pages_of (held ws b)) where
    abbrev t : List ℕ
    t = register_of (held ws b)

    asked : (reading ws b Err (register_answer out) ≡ fitted t out) × (reading ws b (λ d. out) (register_buffer out) ≡ replaced t out)
    asked = (reading_ok ws b Err (register_answer out) p, reading_ok ws b (λ d. out) (register_buffer out) p)

    long : length t ≡ 3650 * pages
    long = length-lines (held ws b) (bounded_view ws b.count) (small p) (50 * pages_of (held ws b)) (omega arith) ∙ omega (arith, e)

    pub registers_short : length out < 3650 * pages → Registers ws b out (Err NoSpace) out
    registers_short h = let f = lacks t out (omega (arith, long)) in record { answers = sym (asked.0 ∙ f.0); leaves = sym (asked.1 ∙ f.1) }

    pub registers_done : (out' : List ℕ) → 3650 * pages ≤ length out → out' ≡ put_at 0 t out → Registers ws b out (Ok (3650 * pages)) out'
    registers_done out' h x =
        let f = fitting t out (omega (arith, long)) in
        record { answers = ap Ok (sym long) ∙ sym (asked.0 ∙ f.0); leaves = x ∙ sym (asked.1 ∙ f.1) }
