-- The plain style is printed as document 01 says.
use mathlib.Core.Path.{◌≡◌, refl, sym, ap, ap₂, ◌∙◌, subst}
use mathlib.Core.Bool.{Bool}
use mathlib.Core.List.{List, [], ◌∷◌, ◌++◌}
use Prim.Native.Nat.{ℕ, ◌+◌, ◌≤◌, ◌<◌}
use native.Mathlib.Omega.{arith}
use Rattle.word.proofs.Cases.{zero_one, by_lt}
use Rattle.storage.proofs.Promises.{guarded_map}
use Rattle.style.specs.Styles.{plain_style}
use Rattle.text.specs.Lists.{Range, range}
use Rattle.text.specs.Plain as base-text
use Rattle.text.proofs.Plain.{plain-allowed, listed_base, plain-reads}
use Rattle.print.specs.Forms as form
use Rattle.print.specs.Forms.{Figures}
use Rattle.print.specs.Plain as base
use Rattle.print.specs.Texts.{runs, size_of, singles, cut, pieces, text_of}
use Rattle.print.specs.Promises.{PlainAsBefore}
use Rattle.print.proofs.Printed.{cut_short, cut_long}
use Rattle.print.proofs.Pieces.{one_single}
use Rattle.print.proofs.Runs.{runs_are}
use Rattle.print.proofs.ReadBack.{text_is_list}
use Rattle.print.proofs.Promises.{prints_one, prints_text}

-- ---- the two forms

up : {t : List ℕ} {a : ℕ} → Figures t a → Figures t (a + 0)
up {t} {a} x = let k : a ≡ a + 0 = omega arith in subst (Figures t) k x

down : {t : List ℕ} {a : ℕ} → Figures t (a + 0) → Figures t a
down {t} {a} x = let k : a + 0 ≡ a = omega arith in subst (Figures t) k x

between_base : {m : List ℕ} → form.Between plain_style m → m ≡ 44 ∷ 32 ∷ []
between_base (form.spaced e) = refl
between_base (form.tight e) = zero_one cc

each_order : {t : List ℕ} {a b : ℕ} → form.PrintedEach plain_style t a b → a ≤ b
each_order (form.final x) = omega arith
each_order (form.then x m z) = omega (arith, each_order z)

run_base : {t : List ℕ} {r : Range} → form.PrintedRun plain_style t r → base.PrintedRun t r
run_base (form.each h (form.final x)) = base.alone (down x)
run_base (form.each h (form.then x m z)) = absurd (omega (arith, h, each_order z))
run_base (form.ends {a = a} {b = b} h x z) = let l : a < b = omega arith in base.ends l (down x) (down z)

base_run : {t : List ℕ} {r : Range} → base.PrintedRun t r → form.PrintedRun plain_style t r
base_run (base.alone {a = a} x) = let l : a + 1 < a + 2 = omega arith in form.each l (form.final (up x))
base_run (base.ends {a = a} {b = b} h x z) = let l : a + 2 ≤ b + 1 = omega arith in form.ends l (up x) (up z)

runs_base : {t : List ℕ} {rs : List Range} → form.PrintedRuns plain_style t rs → base.PrintedRuns t rs
runs_base form.nothing = base.nothing
runs_base (form.last x) = base.last (run_base x)
runs_base (form.next {t = t} {m = m} {u = u} {r = r} {q = q} {rs = rs} x b z) =
    subst (λ (v : List ℕ). base.PrintedRuns (t ++ (v ++ u)) (r ∷ q ∷ rs)) (sym (between_base b)) (base.next (run_base x) (runs_base z))

base_runs : {t : List ℕ} {rs : List Range} → base.PrintedRuns t rs → form.PrintedRuns plain_style t rs
base_runs base.nothing = form.nothing
base_runs (base.last x) = form.last (base_run x)
base_runs (base.next x z) = form.next {m = 44 ∷ 32 ∷ []} (base_run x) (form.spaced refl) (base_runs z)

-- a run is one piece
plain-cut : (r : Range) → r.low ≤ r.high → cut 2 r ≡ r ∷ []
plain-cut r h =
    by_lt (size_of r) 2
    (λ l.
    let n : size_of r ≡ 1 = omega arith in
    let e : r.low ≡ r.high = omega (arith, n) in
    cut_short 2 r l ∙ ap (singles r.low) n ∙ one_single r.low ∙ ap (λ (k : ℕ). range r.low k ∷ []) e)
    (λ l. cut_long 2 r l)

plain-pieces : (s : ℕ → Bool) (i : ℕ) (rs : List Range) → form.Runs s i rs → pieces 2 rs ≡ rs
unfolding pieces
plain-pieces s i [] (form.none f) = refl
plain-pieces s i (r ∷ rs) (form.more a b f m z x) =
    ap₂ (λ (ps qs : List Range). ps ++ qs) (plain-cut r b) (plain-pieces s (r.high + 1) rs x)

pub plain_as_before : PlainAsBefore
plain_as_before = record {
  reads = plain-reads;
  text = λ b h t. (
    λ x. (prints_one plain_style plain-allowed b h t).0 (x.0, x.1, base_runs x.2),
    λ e. let x = (prints_one plain_style plain-allowed b h t).1 e in (x.0, x.1, runs_base x.2),
  );
  lists = λ b h small i e.
      subst (base-text.Listed (text_of plain_style b)) (plain-pieces b.members 0 (runs b) (runs_are b h))
      (listed_base (text_is_list plain_style plain-allowed b h small i e));
  prints = λ ws b out r out' p.
      guarded_map
      (λ q s. let x = s.rest plain-allowed in (x.0, (x.1.0, x.1.1, runs_base x.1.2), x.2))
      (prints_text plain_style ws b out r out' p);
}
