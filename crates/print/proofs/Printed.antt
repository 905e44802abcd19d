-- The printed form: the text of runs has it, and no other text does.
use mathlib.Core.Path.{◌≡◌, refl, sym, ap, ap₂, ◌∙◌, subst}
use mathlib.Core.Bool.{Bool, true, false}
use mathlib.Core.List.{List, [], ◌∷◌, ◌++◌, append_assoc, append-nil}
use Prim.Native.Nat.{ℕ, zero, suc, ◌+◌, ◌-◌, ◌*◌, ◌/◌, ◌%◌, ◌≤◌, ◌<◌}
use native.Mathlib.Omega.{arith}
use borrow.Author.Tests.{lt-ltb, le-ltb, eq-eqb, ne_eqb}
use Rattle.word.specs.Sets.{choose}
use Rattle.word.proofs.Cases.{by_lt}
use Rattle.style.specs.Promises.{Allowed}
use Rattle.style.specs.declared.Style.{Style}
use Rattle.text.specs.Lists.{Range, range}
use Rattle.print.specs.Texts.{decimal, size_of, singles, cut, pieces, printed, gap, others, text}
use Rattle.print.specs.Forms.{Figures, figure, figures, Between, spaced, tight, PrintedEach, final, then, PrintedRun, each, ends, PrintedRuns, nothing, last, next, Runs, none, more}
use Rattle.print.proofs.Decimals.{decimal_small, decimal-more}

-- ---- numbers

figures_to : {t u : List ℕ} {n m : ℕ} → u ≡ t → n ≡ m → Figures t n → Figures u m
figures_to {t = t} {u = u} {n = n} p q x = subst (Figures u) q (subst (λ (z : List ℕ). Figures z n) (sym p) x)

small_figures : (n : ℕ) → n < 10 → Figures (decimal n) n
small_figures n h = let e : n % 10 ≡ n = omega arith in figures_to (decimal_small n h) e (figure (omega arith))

figures_from : (f n : ℕ) → n ≤ f → Figures (decimal n) n
figures_from zero n h = small_figures n (omega arith)
figures_from (suc f) n h =
    by_lt n 10
    (λ l. small_figures n l)
    (λ l.
    let e : 10 * (n / 10) + n % 10 ≡ n = omega arith in
    figures_to (decimal-more n l) e (figures (omega arith) (omega arith) (figures_from f (n / 10) (omega arith))))

pub decimal_figures : (n : ℕ) → Figures (decimal n) n
decimal_figures n = figures_from n n (omega arith)

pub figures_only : {t : List ℕ} {n : ℕ} → Figures t n → t ≡ decimal n
figures_only (figure {d = d} h) = ap (λ (k : ℕ). (48 + k) ∷ []) (omega arith) ∙ sym (decimal_small d h)
figures_only (figures {t = t} {v = v} {d = d} h l x) =
    let q : v ≡ (10 * v + d) / 10 = omega arith in
    let m : d ≡ (10 * v + d) % 10 = omega arith in
    ap₂ (λ (z : List ℕ) (k : ℕ). z ++ (48 + k) ∷ []) (figures_only x ∙ ap decimal q) m ∙ sym (decimal-more (10 * v + d) (omega arith))

-- ---- a piece

pub printed-one : (y : Style) (a b : ℕ) → a ≡ b → printed y (range a b) ≡ decimal (a + y.first)
unfolding printed
printed-one y a b e =
    ap (λ (t : Bool). choose t (decimal (a + y.first)) (decimal (a + y.first) ++ y.joiner ∷ decimal (b + y.first))) (eq-eqb a b e)

pub printed_two : (y : Style) (a b : ℕ) → (a ≡ b → ⊥) → printed y (range a b) ≡ decimal (a + y.first) ++ y.joiner ∷ decimal (b + y.first)
unfolding printed
printed_two y a b e =
    ap (λ (t : Bool). choose t (decimal (a + y.first)) (decimal (a + y.first) ++ y.joiner ∷ decimal (b + y.first))) (ne_eqb a b e)

-- ---- a run, whole or number by number

pub cut_short : (k : ℕ) (r : Range) → size_of r < k → cut k r ≡ singles r.low (size_of r)
cut_short k r h = ap (λ (t : Bool). choose t (singles r.low (size_of r)) (r ∷ [])) (lt-ltb (size_of r) k h)

pub cut_long : (k : ℕ) (r : Range) → k ≤ size_of r → cut k r ≡ r ∷ []
cut_long k r h = ap (λ (t : Bool). choose t (singles r.low (size_of r)) (r ∷ [])) (le-ltb (size_of r) k h)

pub singles-more : (a n : ℕ) → singles a (suc n) ≡ range a a ∷ singles (a + 1) n
unfolding singles
singles-more a n = ap (λ (k : ℕ). range a a ∷ singles k n) (omega arith)

text-one : (y : Style) (r : Range) → text y (r ∷ []) ≡ printed y r
unfolding text others
text-one y r = append-nil (printed y r)

pub text_none : (y : Style) → text y [] ≡ []
unfolding text
text_none y = refl

pub others-append : (y : Style) (ps qs : List Range) → others y (ps ++ qs) ≡ others y ps ++ others y qs
unfolding others
others-append y [] qs = refl
others-append y (r ∷ ps) qs =
    ap (λ (t : List ℕ). gap y.blank ++ (printed y r ++ t)) (others-append y ps qs)
    ∙ sym (append_assoc (gap y.blank) (printed y r ++ others y ps) (others y qs) ∙ ap (λ (t : List ℕ). gap y.blank ++ t) (append_assoc (printed y r) (others y ps) (others y qs)))

-- pieces, what stands between, and pieces
text-append : (y : Style) (p q : Range) (ps qs : List Range) → text y (p ∷ ps ++ q ∷ qs) ≡ text y (p ∷ ps) ++ (gap y.blank ++ text y (q ∷ qs))
unfolding text others
text-append y p q ps qs =
    ap (λ (t : List ℕ). printed y p ++ t) (others-append y ps (q ∷ qs)) ∙ sym (append_assoc (printed y p) (others y ps) (others y (q ∷ qs)))

-- a run has a first piece
cut_some : (k : ℕ) (r : Range) → r.low ≤ r.high → (p : Range) × (ps : List Range) × (cut k r ≡ p ∷ ps)
cut_some k r h =
    by_lt (size_of r) k
    (λ l.
    let e : size_of r ≡ suc (r.high - r.low) = omega arith in
    (range r.low r.low, singles (r.low + 1) (r.high - r.low), cut_short k r l ∙ ap (singles r.low) e ∙ singles-more r.low (r.high - r.low)))
    (λ l. (r, [], cut_long k r l))

text-both : (y : Style) (k : ℕ) (r q : Range) (rs : List Range) → r.low ≤ r.high → q.low ≤ q.high
    → text y (cut k r ++ pieces k (q ∷ rs)) ≡ text y (cut k r) ++ (gap y.blank ++ text y (pieces k (q ∷ rs)))
unfolding pieces
text-both y k r q rs h l =
    let a = cut_some k r h in
    let b = cut_some k q l in
    let e : pieces k (q ∷ rs) ≡ b.0 ∷ (b.1 ++ pieces k rs) = ap (λ (ps : List Range). ps ++ pieces k rs) b.2 in
    ap₂ (λ (ps qs : List Range). text y (ps ++ qs)) a.2 e ∙ text-append y a.0 b.0 a.1 (b.1 ++ pieces k rs)
    ∙ sym (ap₂ (λ (ps qs : List Range). text y ps ++ (gap y.blank ++ text y qs)) a.2 e)

-- a piece, what stands between, and the text of others
text-next : (y : Style) (r q : Range) (ps : List Range) → text y (r ∷ q ∷ ps) ≡ printed y r ++ (gap y.blank ++ text y (q ∷ ps))
unfolding text others
text-next y r q ps = refl

between : (y : Style) → Between y (gap y.blank)
between y = go y.blank refl
  where
    go : (b : Bool) → y.blank ≡ b → Between y (gap b)
    go true e = spaced e
    go false e = tight e

between_only : (y : Style) {m : List ℕ} → Between y m → m ≡ gap y.blank
between_only y (spaced e) = ap gap (sym e)
between_only y (tight e) = ap gap (sym e)

-- the numbers of a run
each_printed : (y : Style) (n a : ℕ) → PrintedEach y (text y (singles a (suc n))) a (a + n)
unfolding singles
each_printed y zero a =
    let e : text y (range a a ∷ []) ≡ decimal (a + y.first) = text-one y (range a a) ∙ printed-one y a a refl in
    let k : a ≡ a + 0 = omega arith in
    subst (λ (t : List ℕ). PrintedEach y t a (a + 0)) (sym e) (subst (λ (b : ℕ). PrintedEach y (decimal (a + y.first)) a b) k (final (decimal_figures (a + y.first))))
each_printed y (suc n) a =
    let k : suc a ≡ a + 1 = omega arith in
    let l : a + 1 + n ≡ a + suc n = omega arith in
    let e : text y (singles a (suc (suc n))) ≡ decimal (a + y.first) ++ (gap y.blank ++ text y (singles (a + 1) (suc n))) =
    text-next y (range a a) (range (suc a) (suc a)) (singles (suc (suc a)) n)
    ∙ ap₂ (λ (z : List ℕ) (m : ℕ). z ++ (gap y.blank ++ text y (singles m (suc n)))) (printed-one y a a refl) k in
    subst (λ (t : List ℕ). PrintedEach y t a (a + suc n)) (sym e)
    (then (decimal_figures (a + y.first)) (between y) (subst (PrintedEach y (text y (singles (a + 1) (suc n))) (a + 1)) l (each_printed y n (a + 1))))

each_only : (y : Style) {t : List ℕ} {a b : ℕ} → PrintedEach y t a b → (n : ℕ) × (b ≡ a + n) × (t ≡ text y (singles a (suc n)))
unfolding singles
each_only y (final {a = a} x) = (0, omega arith, figures_only x ∙ sym (text-one y (range a a) ∙ printed-one y a a refl))
each_only y (then {t = t} {m = m} {u = u} {a = a} {b = b} x w z) =
    let q = each_only y z in
    let k : a + 1 ≡ suc a = omega arith in (
      suc q.0,
      omega (arith, q.1),
      ap₂ (λ (v o : List ℕ). v ++ o) (figures_only x ∙ sym (printed-one y a a refl))
          (ap₂ (λ (v o : List ℕ). v ++ o) (between_only y w) (q.2 ∙ ap (λ (n : ℕ). text y (singles n (suc q.0))) k))
          ∙ sym (text-next y (range a a) (range (suc a) (suc a)) (singles (suc (suc a)) q.0)),
    )

module _ (y : Style) (ok : Allowed y) where
  run-printed : (a b : ℕ) → a ≤ b → PrintedRun y (text y (cut y.shortest (range a b))) (range a b)
  run-printed a b h =
      by_lt (suc b - a) y.shortest
      (λ l.
      let e : text y (cut y.shortest (range a b)) ≡ text y (singles a (suc (b - a))) = ap (text y) (cut_short y.shortest (range a b) l ∙ ap (singles a) (omega arith)) in
      let k : a + (b - a) ≡ b = omega arith in
      run_to e (each (omega arith) (subst (PrintedEach y (text y (singles a (suc (b - a)))) a) k (each_printed y (b - a) a))))
      (λ l.
      let e : text y (cut y.shortest (range a b)) ≡ decimal (a + y.first) ++ y.joiner ∷ decimal (b + y.first) =
      ap (text y) (cut_long y.shortest (range a b) l) ∙ text-one y (range a b) ∙ printed_two y a b (λ q. omega (arith, ok.shortest)) in
      run_to e (ends (omega arith) (decimal_figures (a + y.first)) (decimal_figures (b + y.first))))
    where
      run_to : {t u : List ℕ} → u ≡ t → PrintedRun y t (range a b) → PrintedRun y u (range a b)
      run_to e x = subst (λ (z : List ℕ). PrintedRun y z (range a b)) (sym e) x

  run_only : {t : List ℕ} {r : Range} → PrintedRun y t r → t ≡ text y (cut y.shortest r)
  run_only (each {a = a} {b = b} h x) =
      let q = each_only y x in
      q.2 ∙ sym (ap (text y) (cut_short y.shortest (range a b) (omega (arith, q.1)) ∙ ap (singles a) (omega (arith, q.1))))
  run_only (ends {a = a} {b = b} h x z) =
      ap₂ (λ (v w : List ℕ). v ++ y.joiner ∷ w) (figures_only x) (figures_only z)
      ∙ sym (ap (text y) (cut_long y.shortest (range a b) (omega arith)) ∙ text-one y (range a b) ∙ printed_two y a b (λ e. omega (arith, ok.shortest)))

  run_order : {t : List ℕ} {r : Range} → PrintedRun y t r → r.low ≤ r.high
  run_order (each h x) = let q = each_only y x in omega (arith, q.1)
  run_order (ends h x z) = omega (arith, ok.shortest)

  -- ---- runs

  first_run : {u : List ℕ} {q : Range} {rs : List Range} → PrintedRuns y u (q ∷ rs) → q.low ≤ q.high
  first_run (last x) = run_order x
  first_run (next x w z) = run_order x

  first_order : (s : ℕ → Bool) (i : ℕ) (q : Range) (rs : List Range) → Runs s i (q ∷ rs) → q.low ≤ q.high
  first_order s i q rs (more a b f m z x) = b

  pub runs-printed : (s : ℕ → Bool) (i : ℕ) (rs : List Range) → Runs s i rs → PrintedRuns y (text y (pieces y.shortest rs)) rs
  unfolding pieces
  runs-printed s i [] (none f) = subst (λ (t : List ℕ). PrintedRuns y t []) (sym (text_none y)) nothing
  runs-printed s i (r ∷ []) (more a b f m z x) =
      subst (λ (t : List ℕ). PrintedRuns y t (r ∷ [])) (sym (ap (text y) (append-nil (cut y.shortest r)))) (last (run-printed r.low r.high b))
  runs-printed s i (r ∷ q ∷ rs) (more a b f m z x) =
      subst (λ (t : List ℕ). PrintedRuns y t (r ∷ q ∷ rs)) (sym (text-both y y.shortest r q rs b (first_order s (r.high + 1) q rs x)))
      (next (run-printed r.low r.high b) (between y) (runs-printed s (r.high + 1) (q ∷ rs) x))

  pub printed_only : {t : List ℕ} {rs : List Range} → PrintedRuns y t rs → t ≡ text y (pieces y.shortest rs)
  unfolding pieces
  printed_only nothing = sym (text_none y)
  printed_only (last {r = r} x) = run_only x ∙ sym (ap (text y) (append-nil (cut y.shortest r)))
  printed_only (next {r = r} {q = q} {rs = rs} x w z) =
      ap₂ (λ (v o : List ℕ). v ++ o) (run_only x) (ap₂ (λ (v o : List ℕ). v ++ o) (between_only y w) (printed_only z))
      ∙ sym (text-both y y.shortest r q rs (run_order x) (first_run z))
