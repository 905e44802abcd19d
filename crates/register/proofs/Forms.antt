-- The forms of a line: the printed ones have them, no other bytes do, and a line says one thing.
use mathlib.Core.Path.{◌≡◌, refl, sym, ap, ap₂, ◌∙◌}
use mathlib.Core.List.{List, [], ◌∷◌, ◌++◌, append_assoc}
use Prim.Native.Nat.{ℕ, zero, suc, ◌+◌, ◌-◌, ◌*◌, ◌≤◌}
use native.Mathlib.Omega.{arith}
use lib.ListN.{length, get_or, take, drop, replicate, length-append, length-replicate}
use lib.Seq.{take_at, drop_at, get_or_at}
use Rattle.text.specs.Lists.{space}
use Rattle.print.specs.Texts.{decimal}
use Rattle.print.specs.Forms.{Figures, figure, figures}
use Rattle.print.proofs.Printed.{decimal_figures, figures_only}
use Rattle.register.specs.Register.{column, ended, line}
use Rattle.register.specs.Kernels.{Narrow}
use Rattle.register.specs.Pages.{Blanks, none, blank, Column, aligned, Row, row, BlankRow, unused}
use Rattle.register.proofs.Lines.{narrow_digits}

blanks_are : (n : ℕ) → Blanks n (replicate n space)
blanks_are zero = none
blanks_are (suc n) = blank (blanks_are n)

blanks_only : {n : ℕ} {t : List ℕ} → Blanks n t → t ≡ replicate n space
blanks_only none = refl
blanks_only (blank x) = ap (λ (t : List ℕ). 32 ∷ t) (blanks_only x)

column_is : (n : ℕ) → Narrow n → Column (column n) n
unfolding column
column_is n h = aligned (blanks_are (12 - length (decimal n))) (decimal_figures n) (omega (arith, narrow_digits n h))

column_only : {t : List ℕ} {n : ℕ} → Column t n → t ≡ column n
unfolding column
column_only (aligned {u = u} {t = t} {k = k} {n = n} b f e) =
    let x : t ≡ decimal n = figures_only f in
    let q : k ≡ 12 - length (decimal n) = omega (arith, ap length x) in
    ap₂ (λ (a c : List ℕ). a ++ c) (blanks_only b ∙ ap (λ (m : ℕ). replicate m space) q) x

pub row_is : (a b c : ℕ) → Narrow a → Narrow b → Narrow c → Row (line a b c) a b c
unfolding line ended
row_is a b c ha hb hc = row (column_is a ha) (column_is b hb) (column_is c hc) (blanks_are 36)

pub row_only : {t : List ℕ} {a b c : ℕ} → Row t a b c → t ≡ line a b c
unfolding line ended
row_only (row {t = t} {u = u} {v = v} {w = w} x y z k) = (λ i. column_only x i ++ (column_only y i ++ (column_only z i ++ (blanks_only k i ++ 10 ∷ []))))

pub blank_is : BlankRow (ended 72)
unfolding ended
blank_is = unused (blanks_are 72)

pub blank_only : {t : List ℕ} → BlankRow t → t ≡ ended 72
unfolding ended
blank_only (unused x) = ap (λ (t : List ℕ). t ++ 10 ∷ []) (blanks_only x)

-- ---- what a line says

-- the number that bytes show: blanks before digits add nothing
shown : ℕ → List ℕ → ℕ
shown v [] = v
shown v (c ∷ t) = shown (10 * v + (c - 48)) t

shown-blanks : {n : ℕ} {u : List ℕ} → Blanks n u → (t : List ℕ) → shown 0 (u ++ t) ≡ shown 0 t
unfolding shown
shown-blanks none t = refl
shown-blanks (blank x) t = shown-blanks x t

shown-last : (v : ℕ) (t : List ℕ) (c : ℕ) → shown v (t ++ c ∷ []) ≡ 10 * shown v t + (c - 48)
unfolding shown
shown-last v [] c = refl
shown-last v (x ∷ t) c = shown-last (10 * v + (x - 48)) t c

shown_figures : {t : List ℕ} {n : ℕ} → Figures t n → shown 0 t ≡ n
unfolding shown
shown_figures (figure {d = d} h) = omega arith
shown_figures (figures {t = t} {v = v} {d = d} p h x) = shown-last 0 t (48 + d) ∙ omega (arith, shown_figures x)

shown-column : {t : List ℕ} {n : ℕ} → Column t n → shown 0 t ≡ n
shown-column (aligned {t = t} b f e) = shown-blanks b t ∙ shown_figures f

column_long : {t : List ℕ} {n : ℕ} → Column t n → length t ≡ 12
column_long (aligned {u = u} {t = t} {k = k} b f e) = length-append u t ∙ omega (arith, ap length (blanks_only b), length-replicate k space)

-- the numbers in the three columns
row_first : {t : List ℕ} {a b c : ℕ} → Row t a b c → shown 0 (take 12 t) ≡ a
row_first (row {t = t} {u = u} {v = v} {w = w} x y z k) =
    ap (shown 0) (take_at t (u ++ (v ++ (w ++ 10 ∷ []))) 12 (column_long x)) ∙ shown-column x

row_second : {t : List ℕ} {a b c : ℕ} → Row t a b c → shown 0 (take 12 (drop 12 t)) ≡ b
row_second (row {t = t} {u = u} {v = v} {w = w} x y z k) =
    ap (λ (s : List ℕ). shown 0 (take 12 s)) (drop_at t (u ++ (v ++ (w ++ 10 ∷ []))) 12 (column_long x))
    ∙ ap (shown 0) (take_at u (v ++ (w ++ 10 ∷ [])) 12 (column_long y)) ∙ shown-column y

row_third : {t : List ℕ} {a b c : ℕ} → Row t a b c → shown 0 (take 12 (drop 12 (drop 12 t))) ≡ c
row_third (row {t = t} {u = u} {v = v} {w = w} x y z k) =
    ap (λ (s : List ℕ). shown 0 (take 12 (drop 12 s))) (drop_at t (u ++ (v ++ (w ++ 10 ∷ []))) 12 (column_long x))
    ∙ ap (λ (s : List ℕ). shown 0 (take 12 s)) (drop_at u (v ++ (w ++ 10 ∷ [])) 12 (column_long y))
    ∙ ap (shown 0) (take_at v (w ++ 10 ∷ []) 12 (column_long z)) ∙ shown-column z

pub rows_same : {t : List ℕ} {a b c x y z : ℕ} → Row t a b c → Row t x y z → (a ≡ x) × (b ≡ y) × (c ≡ z)
rows_same r q = (sym (row_first r) ∙ row_first q, sym (row_second r) ∙ row_second q, sym (row_third r) ∙ row_third q)

-- figures end with a digit, so that a line of numbers is not blank
figures_end : {t : List ℕ} {n : ℕ} → Figures t n → (q : List ℕ) × (d : ℕ) × (t ≡ q ++ (48 + d) ∷ [])
figures_end (figure {d = d} h) = ([], d, refl)
figures_end (figures {t = t} {d = d} p h x) = (t, d, refl)

column-end : {t : List ℕ} {n : ℕ} → Column t n → (q : List ℕ) × (d : ℕ) × (t ≡ q ++ (48 + d) ∷ [])
column-end (aligned {u = u} b f e) = let x = figures_end f in (u ++ x.0, x.1, ap (λ (s : List ℕ). u ++ s) x.2 ∙ sym (append_assoc u x.0 ((48 + x.1) ∷ [])))

row-digit : {t : List ℕ} {a b c : ℕ} → Row t a b c → 48 ≤ get_or t 11 0
row-digit (row {t = t} {u = u} {v = v} {w = w} x y z k) =
    let (q, d, e) = column-end x in
    let rest : List ℕ = u ++ (v ++ (w ++ 10 ∷ [])) in
    let n : length q ≡ 11 = omega (arith, column_long x, ap length e, length-append q ((48 + d) ∷ [])) in
    let g : get_or (t ++ rest) 11 0 ≡ 48 + d =
    ap (λ (s : List ℕ). get_or (s ++ rest) 11 0) e ∙ ap (λ (s : List ℕ). get_or s 11 0) (append_assoc q ((48 + d) ∷ []) rest) ∙ get_or_at q (48 + d) rest 0 11 n in
    omega (arith, g)

pub row-not-blank : {t : List ℕ} {a b c : ℕ} → Row t a b c → BlankRow t → ⊥
unfolding ended
row-not-blank x y = omega (arith, row-digit x, ap (λ (s : List ℕ). get_or s 11 0) (blank_only y))
