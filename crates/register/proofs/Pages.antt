-- The register by its lines: the printed text has the form, and no other text does.
use mathlib.Core.Path.{◌≡◌, refl, sym, ap, ap₂, ◌∙◌, subst}
use mathlib.Core.Bool.{Bool}
use mathlib.Core.List.{List, [], ◌∷◌, ◌++◌}
use Prim.Native.Nat.{ℕ, zero, suc, ◌+◌, ◌-◌, ◌*◌, ◌/◌, ◌%◌, ◌≤◌, ◌<◌}
use native.Mathlib.Omega.{arith}
use lib.ListN.{length, take, drop, length-drop, drop_of_length-le}
use lib.Seq.{take_all, take-length, take-add, drop_at, take-append-le, drop-append-le}
use Rattle.word.specs.Sets.{count_below}
use Rattle.word.proofs.Cases.{by_lt, by_eq}
use Rattle.word.proofs.Sets.{counts}
use Rattle.storage.specs.Stores.{Bits, Bounded, size}
use Rattle.storage.specs.Guards.{most_words}
use Rattle.scans.proofs.Promises.{all-counted}
use Rattle.text.specs.Lists.{Range}
use Rattle.print.specs.Texts.{runs, size_of}
use Rattle.print.specs.Forms.{Runs, none, more}
use Rattle.print.proofs.Promises.{prints_runs}
use Rattle.register.specs.Register.{line, ended, row_of, pages_for, pages_of, foot_of, line_of, lines_of, register_of}
use Rattle.register.specs.Pages.{Row, BlankRow, line_at, Nth, here, later, Paged, IsRegister}
use Rattle.register.proofs.Ahead.{Below, nil, cons, all_below}
use Rattle.register.proofs.Rows.{size_narrow, pages_narrow, length-line_of, length-lines, foot-line, row_line}
use Rattle.register.proofs.Forms.{row_is, row_only, blank_is, blank_only}

-- ---- runs by their number

nth_drop : {rs : List Range} {i : ℕ} {r : Range} → Nth rs i r → (qs : List Range) × (drop i rs ≡ r ∷ qs)
nth_drop (here {rs = rs}) = (rs, refl)
nth_drop (later x) = nth_drop x

pub nth_some : (rs : List Range) (i : ℕ) → i < length rs → (r : Range) × Nth rs i r
nth_some [] i h = absurd (omega arith)
nth_some (r ∷ rs) zero h = (r, here)
nth_some (r ∷ rs) (suc i) h = let x = nth_some rs i (omega arith) in (x.0, later x.1)

nth_below : {e : ℕ} {rs : List Range} {i : ℕ} {r : Range} → Below e rs → Nth rs i r → (r.low ≤ r.high) × (r.high < e)
nth_below nil y = elim y [ ]
nth_below (cons l h x) here = (l, h)
nth_below (cons l h x) (later y) = nth_below x y

pub nth_order : {s : ℕ → Bool} {i k : ℕ} {rs : List Range} {r : Range} → Runs s i rs → Nth rs k r → r.low ≤ r.high
nth_order (none f) y = elim y [ ]
nth_order (more a b f m z x) here = b
nth_order (more a b f m z x) (later y) = nth_order x y

-- ---- a text by its lines

-- n lines of 73 bytes, each as it should be
text_is : (b : Bits) (t : List ℕ) (n : ℕ) → 73 * n ≤ length t → ((k : ℕ) → k < n → line_at t k ≡ line_of b k) → take (73 * n) t ≡ lines_of b n
unfolding lines_of
text_is b t zero h f = refl
text_is b t (suc n) h f =
    let e : 73 * suc n ≡ 73 * n + 73 = omega arith in
    ap (λ (m : ℕ). take m t) e ∙ take-add (73 * n) 73 t ∙ ap₂ (λ (x y : List ℕ). x ++ y) (text_is b t n (omega arith) (λ k l. f k (omega arith))) (f n (omega arith))

module _ (b : Bits) (bound : Bounded b) (small : b.count ≤ most_words) where
  line_is : (n k : ℕ) → n ≤ 50 * pages_of b → k < n → line_at (lines_of b n) k ≡ line_of b k
  unfolding lines_of
  line_is zero k h l = absurd (omega arith)
  line_is (suc n) k h l =
      let m : length (lines_of b n) ≡ 73 * n = length-lines b bound small n (omega arith) in
      let w : length (line_of b n) ≡ 73 = length-line_of b bound small n (omega arith) in
      by_eq k n
      (λ e.
      ap (λ (i : ℕ). line_at (lines_of b n ++ line_of b n) i) e ∙ ap (take 73) (drop_at (lines_of b n) (line_of b n) (73 * n) m) ∙ take_all 73 (line_of b n) (omega arith)
      ∙ ap (line_of b) (sym e))
      (λ e.
      ap (take 73) (drop-append-le (73 * k) (lines_of b n) (line_of b n) (omega arith))
      ∙ take-append-le 73 (drop (73 * k) (lines_of b n)) (line_of b n) (omega (arith, e, length-drop (73 * k) (lines_of b n)))
      ∙ line_is n k (omega arith) (omega (arith, e)))

-- ---- line j of page k

row-place : (b : Bits) (k j : ℕ) → j < 49 → row_of (drop (49 * k + j) (runs b)) ≡ line_of b (50 * k + j)
row-place b k j h =
    let e : 49 * k + j ≡ 50 * k + j - (50 * k + j) / 50 = omega arith in
    ap (λ (i : ℕ). row_of (drop i (runs b))) e ∙ row_line b (50 * k + j) (λ z. omega arith)

foot-place : (b : Bits) (k : ℕ) → foot_of b (k + 1) ≡ line_of b (50 * k + 49)
foot-place b k =
    let e : k + 1 ≡ (50 * k + 49) / 50 + 1 = omega arith in
    ap (foot_of b) e ∙ foot-line b (50 * k + 49) (omega arith)

-- the row of run number i, and of none
nth-row : {rs : List Range} {i : ℕ} {r : Range} → Nth rs i r → (n : ℕ) → r.low + n ≡ r.high + 1 → line r.low r.high n ≡ row_of (drop i rs)
unfolding row_of
nth-row {rs = rs} {i = i} {r = r} x n e =
    let q : n ≡ size_of r = omega arith in
    ap (line r.low r.high) q ∙ ap row_of (sym (nth_drop x).1)

no_row : (rs : List Range) (i : ℕ) → length rs ≤ i → ended 72 ≡ row_of (drop i rs)
unfolding row_of
no_row rs i h = ap row_of (sym (drop_of_length-le rs {i = i} h))

-- ---- the pages of n runs: enough of them, and each but the first begins with a run

paged : (n : ℕ) → Paged n (pages_for n)
unfolding pages_for
paged n = record { some = omega arith; all = omega arith; full = λ k h l. omega arith }

paged_only : (n p q : ℕ) → Paged n p → Paged n q → p ≡ q
paged_only n p q x y =
    by_lt p q
    (λ h. absurd (omega (arith, x.all, y.full p x.some h)))
    (λ h. by_lt q p (λ l. absurd (omega (arith, y.all, x.full q y.some l))) (λ l. omega arith))

module _ (b : Bits) (bound : Bounded b) (small : b.count ≤ most_words) where
  pub register_is : IsRegister b (register_of b)
  unfolding foot_of
  register_is = record {
    runs = runs b;
    pages = pages_of b;
    members = size b;
    maximal = (prints_runs b bound).maximal;
    counted = all-counted b bound;
    bytes = length-lines b bound small (50 * pages_of b) (omega arith);
    paged = paged (length (runs b));
    run = λ k j n r hk hj x e.
        let l = nth_below (all_below b bound) x in
        subst (λ (u : List ℕ). Row u r.low r.high n) (nth-row x n e ∙ row-place b k j hj ∙ sym (at (50 * k + j) (omega arith)))
        (row_is r.low r.high n (omega (arith, l)) (omega (arith, l)) (omega (arith, l)));
    blank = λ k j hk hj h. subst BlankRow (no_row (runs b) (49 * k + j) h ∙ row-place b k j hj ∙ sym (at (50 * k + j) (omega arith))) blank_is;
    foot = λ k hk.
        subst (λ (u : List ℕ). Row u (k + 1) (pages_of b) (size b)) (foot-place b k ∙ sym (at (50 * k + 49) (omega arith)))
        (row_is (k + 1) (pages_of b) (size b) (omega (arith, pages_narrow b bound small)) (pages_narrow b bound small) (size_narrow b bound small));
  }
    where
      at : (k : ℕ) → k < 50 * pages_of b → line_at (register_of b) k ≡ line_of b k
      at k h = line_is b bound small (50 * pages_of b) k (omega arith) h

module _ (b : Bits) (bound : Bounded b) (t : List ℕ) (x : IsRegister b t) where
  same_runs : x.runs ≡ runs b
  same_runs = (prints_runs b bound).only x.runs x.maximal

  same_pages : x.pages ≡ pages_of b
  same_pages =
      paged_only (length (runs b)) x.pages (pages_of b)
      (subst (λ (rs : List Range). Paged (length rs) x.pages) same_runs x.paged) (paged (length (runs b)))

  same_members : x.members ≡ size b
  unfolding size
  same_members = sym ((x.counted (64 * b.count) (omega arith)).all (count_below b.members) (counts b.members))

  row_same : (k j : ℕ) → k < x.pages → j < 49 → line_at t (50 * k + j) ≡ row_of (drop (49 * k + j) (runs b))
  row_same k j hk hj =
      by_lt (49 * k + j) (length x.runs)
      (λ h.
      let (r, y) = nth_some x.runs (49 * k + j) h in
      let l : r.low ≤ r.high = nth_order x.maximal y in
      row_only (x.run k j (size_of r) r hk hj y (omega arith)) ∙ nth-row y (size_of r) (omega arith) ∙ ap (λ (rs : List Range). row_of (drop (49 * k + j) rs)) same_runs)
      (λ h. blank_only (x.blank k j hk hj h) ∙ no_row x.runs (49 * k + j) h ∙ ap (λ (rs : List Range). row_of (drop (49 * k + j) rs)) same_runs)

  each : (k j : ℕ) → k < x.pages → j < 50 → line_at t (50 * k + j) ≡ line_of b (50 * k + j)
  unfolding foot_of
  each k j hk hj =
      by_eq j 49
      (λ e.
      ap (λ (i : ℕ). line_at t (50 * k + i)) e ∙ row_only (x.foot k hk) ∙ ap₂ (line (k + 1)) same_pages same_members ∙ foot-place b k
      ∙ ap (λ (i : ℕ). line_of b (50 * k + i)) (sym e))
      (λ e. row_same k j hk (omega (arith, e)) ∙ row-place b k j (omega (arith, e)))

  pub register_only : t ≡ register_of b
  register_only =
      let n : 50 * x.pages ≡ 50 * pages_of b = ap (λ (p : ℕ). 50 * p) same_pages in
      let e : length t ≡ 73 * (50 * pages_of b) = omega (arith, x.bytes, n) in
      sym (take-length t) ∙ ap (λ (m : ℕ). take m t) e
      ∙ text_is b t (50 * pages_of b) (omega arith)
      (λ k h.
      let q : 50 * (k / 50) + k % 50 ≡ k = omega arith in
      subst (λ (i : ℕ). line_at t i ≡ line_of b i) q (each (k / 50) (k % 50) (omega (arith, n)) (omega arith)))
