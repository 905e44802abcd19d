-- Measuring and printing a bitmap, run by run.
use mathlib.Core.Path.{◌≡◌, refl, sym, ap, ap₂, ◌∙◌}
use mathlib.Core.Bool.{Bool, true, false}
use mathlib.Core.List.{List, [], ◌∷◌, ◌++◌, append_assoc, append-nil}
use Prim.Native.Nat.{ℕ, ◌+◌, ◌*◌, ◌≤◌, ◌<◌}
use native.Mathlib.Omega.{arith}
use lib.ListN.{length, length-append}
use Rattle.word.specs.Sets.{choose}
use Rattle.storage.specs.Stores.{Bits, Bounded, checked, held, reading}
use Rattle.storage.specs.Guards.{Passed}
use Rattle.storage.specs.declared.Bitmap.{Bitmap}
use Rattle.storage.specs.declared.Refusal.TheVariants.{NoSpace, BadStyle}
use Rattle.storage.proofs.Checks.{reading_ok, reading_stopped, reading_raised}
use Rattle.style.specs.Styles.{allowed}
use Rattle.style.specs.Promises.{Allowed}
use Rattle.style.specs.declared.Style.{Style}
use Rattle.text.specs.Lists.{list_limit, Range}
use Rattle.print.specs.Texts.{runs, cut, pieces, text_of, fitted, replaced, list_answer, list_buffer, Prints}
use Rattle.print.specs.Kernels.{NextRun, Printable, range_of, pieces_at, put_at, Puts}
use Rattle.print.specs.Forms.{Runs}
use Rattle.print.specs.declared.Run.{Run}
use Rattle.print.proofs.Buffer.{length-put, put_then, puts_none}
use Rattle.print.proofs.Fitting.{lacks, fitting}
use Rattle.print.proofs.Runs.{runs_are, next_none, next_some}
use Rattle.print.proofs.Pieces.{pieces_none, pieces-append, run-most}
use Rattle.storage.specs.Refusals.{Amount, passing, refusing}
use Rattle.storage.specs.declared.Refused.{Refused}
use Rattle.std.specs.Prelude.{Ok, Err, IsErr, IsErrAnd}

-- ---- the text's front is printed, and the run is the first of those left

pub record PrintingTo (y : Style) (b : Bits) (e at : ℕ) (run : Run) : Type 0 where
  pub i : ℕ
  pub front : List ℕ
  rest : List Range
  next : NextRun b.members e i run
  left : Runs b.members i rest
  parts : text_of y b ≡ front ++ pieces_at y at (pieces y.shortest rest)
  pub at_is : at ≡ length front
  pub short : at ≤ 23 * i

pub going_start : (y : Style) (b : Bits) → Bounded b → (e : ℕ) (run : Run) → NextRun b.members e 0 run → PrintingTo y b e 0 run
going_start y b h e run n =
    record { i = 0; front = []; rest = runs b; next = n; left = runs_are b h; parts = refl; at_is = refl; short = omega arith }

no_pieces : (k : ℕ) → pieces k [] ≡ []
unfolding pieces
no_pieces k = refl

more-pieces : (k : ℕ) (r : Range) (rs : List Range) → pieces k (r ∷ rs) ≡ cut k r ++ pieces k rs
unfolding pieces
more-pieces k r rs = refl

module _ (y : Style) (ok : Allowed y) (b : Bits) (e : ℕ) (past : (j : ℕ) → e ≤ j → b.members j ≡ false) (small : e ≤ list_limit + 1) (at : ℕ) (run : Run) (g : PrintingTo y b e at run) where
  abbrev k : ℕ
  k = y.shortest

  -- all is printed
  pub going_end : run.end ≤ run.low → text_of y b ≡ g.front
  going_end l =
      g.parts
      ∙ ap (λ (rs : List Range). g.front ++ pieces_at y at (pieces k rs)) (next_none b.members e g.i run g.rest past g.next l g.left)
      ∙ ap (λ (t : List ℕ). g.front ++ t) (ap (pieces_at y at) (no_pieces k) ∙ pieces_none y at) ∙ append-nil g.front

  module _ (l : run.low < run.end) where
    -- what the run prints
    abbrev out : List ℕ
    out = pieces_at y at (cut k (range_of run))

    pub printable : Printable run
    printable = record { some = l; limit = omega (arith, g.next.within) }

    pub end-within : run.end ≤ e
    end-within = g.next.within

    pub run_short : at ≤ 23 * run.low
    run_short = omega (arith, g.short, g.next.from)

    found : (qs : List Range) × (g.rest ≡ range_of run ∷ qs) × Runs b.members run.end qs
    found = next_some b.members e g.i run g.rest g.next l g.left

    whole : text_of y b ≡ (g.front ++ out) ++ pieces_at y (at + length out) (pieces k found.0)
    whole =
        g.parts
        ∙ ap (λ (rs : List Range). g.front ++ pieces_at y at rs) (ap (pieces k) found.1 ∙ more-pieces k (range_of run) found.0)
        ∙ ap (λ (t : List ℕ). g.front ++ t) (pieces-append y at (cut k (range_of run)) (pieces k found.0))
        ∙ sym (append_assoc g.front out (pieces_at y (at + length out) (pieces k found.0)))

    -- it lies within the text
    pub run_fits : at + length out ≤ length (text_of y b)
    run_fits =
        omega (
          arith,
          ap length whole,
          length-append (g.front ++ out) (pieces_at y (at + length out) (pieces k found.0)),
          length-append g.front out,
          g.at_is,
        )

    pub going_more : (at' : ℕ) (run' : Run) → at' ≡ at + length out → NextRun b.members e run.end run' → PrintingTo y b e at' run'
    going_more at' run' q n = record {
      i = run.end;
      front = g.front ++ out;
      rest = found.0;
      next = n;
      left = found.2;
      parts = whole ∙ ap (λ (m : ℕ). (g.front ++ out) ++ pieces_at y m (pieces k found.0)) (sym q);
      at_is = q ∙ omega (arith, length-append g.front out, g.at_is);
      short = omega (arith, q, run_short, run-most y ok at run.low run.end l printable.limit);
    }

-- ---- the printed front stands in the buffer

pub record Shown (y : Style) (b : Bits) (e : ℕ) (out : List ℕ) (at : ℕ) (run : Run) (out' : List ℕ) : Type 0 where
  pub going : PrintingTo y b e at run
  pub shown : out' ≡ put_at 0 going.front out

pub shown-start : (y : Style) (b : Bits) → Bounded b → (e : ℕ) (out : List ℕ) (run : Run) → NextRun b.members e 0 run → Shown y b e out 0 run out
unfolding going_start
shown-start y b h e out run n = record { going = going_start y b h e run n; shown = (puts_none 0 out).leaves }

module _ (y : Style) (ok : Allowed y) (b : Bits) (e : ℕ) (past : (j : ℕ) → e ≤ j → b.members j ≡ false) (small : e ≤ list_limit + 1) (out : List ℕ)
    (room : length (text_of y b) ≤ length out) (at : ℕ) (run : Run) (out' : List ℕ) (w : Shown y b e out at run out') where
  abbrev g : PrintingTo y b e at run
  g = w.going

  module _ (l : run.low < run.end) where
    abbrev piece : List ℕ
    piece = pieces_at y at (cut y.shortest (range_of run))

    -- the front and the run lie within the buffer
    fits : length g.front + length piece ≤ length out
    fits = omega (arith, run_fits y ok b e past small at run g l, g.at_is)

    pub shown_long : length out' ≡ length out
    shown_long = ap length w.shown ∙ length-put 0 g.front out (omega (arith, fits))

    pub shown-room : at + length piece ≤ length out'
    shown-room = omega (arith, fits, shown_long, g.at_is)

    pub shown-more : (at' : ℕ) (run' : Run) (out'' : List ℕ) → Puts at piece at' out' out'' → NextRun b.members e run.end run' → Shown y b e out at' run' out''
    unfolding going_more
    shown-more at' run' out'' q n = record {
      going = going_more y ok b e past small at run g l at' run' q.next n;
      shown =
          q.leaves
          ∙ ap₂ (λ (k : ℕ) (o : List ℕ). put_at k piece o) (g.at_is ∙ omega arith) w.shown
          ∙ put_then 0 g.front piece out (omega (arith, fits));
    }

  pub shown-end : run.end ≤ run.low → out' ≡ put_at 0 (text_of y b) out
  shown-end l = w.shown ∙ ap (λ (t : List ℕ). put_at 0 t out) (sym (going_end y ok b e past small at run g l))

-- ---- the call

module _ (y : Style) (ws : List ℕ) (b : Bitmap) (out : List ℕ) where
  pub prints_raised : {r : Amount} {e : Refused} → IsErr r × IsErrAnd r (λ x. x ≡ e.0) → Err e ≡ checked ws b (refusing b) passing → Prints y ws b out r out
  prints_raised {r} {e} h q = record {
    answers = reading_raised ws b (list_answer y out) h q;
    leaves = sym (reading_stopped ws b e (λ d. out) (list_buffer y out) q);
  }

  module _ (p : Passed ws b) where
    pub prints_no_style : allowed y ≡ false → Prints y ws b out (Err BadStyle) out
    prints_no_style a = record {
      answers =
          sym (reading_ok ws b Err (list_answer y out) p ∙ ap (λ (x : Bool). choose x (fitted (text_of y (held ws b)) out) (Err BadStyle)) a);
      leaves = sym (reading_ok ws b (λ d. out) (list_buffer y out) p ∙ ap (λ (x : Bool). choose x (replaced (text_of y (held ws b)) out) out) a);
    }

    module _ (a : allowed y ≡ true) (len : ℕ) (el : len ≡ length (text_of y (held ws b))) where
      abbrev t : List ℕ
      t = text_of y (held ws b)

      -- where the style is allowed, whether the text fits is all there is to ask
      asked : (reading ws b Err (list_answer y out) ≡ fitted t out) × (reading ws b (λ d. out) (list_buffer y out) ≡ replaced t out)
      asked = (
        reading_ok ws b Err (list_answer y out) p ∙ ap (λ (x : Bool). choose x (fitted t out) (Err BadStyle)) a,
        reading_ok ws b (λ d. out) (list_buffer y out) p ∙ ap (λ (x : Bool). choose x (replaced t out) out) a,
      )

      pub prints_short : length out < len → Prints y ws b out (Err NoSpace) out
      prints_short h = let e = lacks t out (omega arith) in record { answers = sym (asked.0 ∙ e.0); leaves = sym (asked.1 ∙ e.1) }

      pub prints_done : (out' : List ℕ) → len ≤ length out → out' ≡ put_at 0 t out → Prints y ws b out (Ok len) out'
      prints_done out' h x =
          let e = fitting t out (omega arith) in
          record { answers = ap Ok el ∙ sym (asked.0 ∙ e.0); leaves = x ∙ sym (asked.1 ∙ e.1) }
