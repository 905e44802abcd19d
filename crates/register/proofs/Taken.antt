-- What is read off the lines of a register: the runs with their sizes, which sum to the number of members.
use mathlib.Core.Path.{◌≡◌, refl, sym, ap, ◌∙◌, subst}
use mathlib.Core.Bool.{Bool, false}
use mathlib.Core.List.{List, [], ◌∷◌, ◌++◌}
use Prim.Native.Nat.{ℕ, zero, suc, ◌+◌, ◌-◌, ◌*◌, ◌/◌, ◌%◌, ◌≤◌, ◌<◌}
use native.Mathlib.Omega.{arith}
use lib.ListN.{length, take}
use lib.Seq.{take_all}
use Rattle.word.specs.Sets.{count_below}
use Rattle.word.proofs.Cases.{by_lt, by_eq}
use Rattle.word.proofs.Sets.{count_add, count_none, count_ones, count_flat}
use Rattle.storage.specs.Stores.{Bits}
use Rattle.text.specs.Lists.{Range}
use Rattle.print.specs.Texts.{size_of}
use Rattle.print.specs.Forms.{Runs, none, more}
use Rattle.register.specs.Pages.{Row, BlankRow, line_at, Nth, here, later, IsRegister, Entry, Taken, start, entry, foot, Say, Sums}
use Rattle.register.specs.Pages as pages
use Rattle.register.proofs.Ahead.{high_below}
use Rattle.register.proofs.Forms.{rows_same, row-not-blank}
use Rattle.register.proofs.Pages.{nth_some, nth_order}

-- ---- runs as entries

abbrev entry_of : Range → Entry
entry_of r = record { first = r.low; last = r.high; size = size_of r }

pub entries_of : List Range → List Entry
entries_of [] = []
entries_of (r ∷ rs) = entry_of r ∷ entries_of rs

entries_last : (rs : List Range) (r : Range) → entries_of (rs ++ r ∷ []) ≡ entries_of rs ++ entry_of r ∷ []
unfolding entries_of
entries_last [] r = refl
entries_last (q ∷ rs) r = ap (λ (es : List Entry). entry_of q ∷ es) (entries_last rs r)

pub say_is : {s : ℕ → Bool} {i : ℕ} {rs : List Range} → Runs s i rs → Say (entries_of rs) rs
unfolding entries_of
say_is (none f) = pages.Say.none
say_is (more {r = r} a b f m z x) = let e : r.low + size_of r ≡ r.high + 1 = omega arith in pages.Say.one {a = r.low} {b = r.high} {n = size_of r} e (say_is x)

pub say_only : {es : List Entry} {rs : List Range} → Say es rs → es ≡ entries_of rs
unfolding entries_of
say_only pages.Say.none = refl
say_only (pages.Say.one {a = a} {b = b} {n = n} e x) =
    let q : n ≡ suc b - a = omega arith in
    (λ i. record { first = a; last = b; size = q i } ∷ say_only x i)

nth-take : {rs : List Range} {i : ℕ} {r : Range} → Nth rs i r → take (suc i) rs ≡ take i rs ++ r ∷ []
nth-take here = refl
nth-take (later {q = q} x) = ap (λ (rs : List Range). q ∷ rs) (nth-take x)

-- ---- line by line

module _ (b : Bits) (t : List ℕ) (x : IsRegister b t) where
  abbrev rs : List Range
  rs = x.runs

  -- the first n lines have so many runs
  abbrev at : ℕ → ℕ
  at n = n - n / 50

  module _ (n : ℕ) (h : n < 50 * x.pages) where
    row_at : n % 50 < 49 → (r : Range) → Nth rs (at n) r → Row (line_at t n) r.low r.high (size_of r)
    row_at l r y =
        let e : at n ≡ 49 * (n / 50) + n % 50 = omega arith in
        let q : 50 * (n / 50) + n % 50 ≡ n = omega arith in
        subst (λ (k : ℕ). Row (line_at t k) r.low r.high (size_of r)) q
        (x.run (n / 50) (n % 50) (size_of r) r (omega arith) l (subst (λ (i : ℕ). Nth rs i r) e y) (omega (arith, nth_order x.maximal y)))

    blank-at : n % 50 < 49 → length rs ≤ at n → BlankRow (line_at t n)
    blank-at l k = let q : 50 * (n / 50) + n % 50 ≡ n = omega arith in subst (λ (k : ℕ). BlankRow (line_at t k)) q (x.blank (n / 50) (n % 50) (omega arith) l (omega arith))

    foot-at : n % 50 ≡ 49 → Row (line_at t n) (n / 50 + 1) x.pages x.members
    foot-at e =
        let q : 50 * (n / 50) + 49 ≡ n = omega arith in
        subst (λ (k : ℕ). Row (line_at t k) (n / 50 + 1) x.pages x.members) q (x.foot (n / 50) (omega arith))

  abbrev off : ℕ → List Entry
  off n = entries_of (take (at n) rs)

  -- one line more
  off_run : (n : ℕ) → n % 50 < 49 → (r : Range) → Nth rs (at n) r → off n ++ entry_of r ∷ [] ≡ off (suc n)
  off_run n l r y =
      let e : suc (at n) ≡ at (suc n) = omega arith in
      sym (entries_last (take (at n) rs) r) ∙ ap entries_of (sym (nth-take y) ∙ ap (λ (k : ℕ). take k rs) e)

  off_blank : (n : ℕ) → length rs ≤ at n → off n ≡ off (suc n)
  off_blank n l = ap entries_of (take_all (at n) rs l ∙ sym (take_all (at (suc n)) rs (omega arith)))

  off_foot : (n : ℕ) → n % 50 ≡ 49 → off n ≡ off (suc n)
  off_foot n e = let q : at n ≡ at (suc n) = omega arith in ap (λ (k : ℕ). entries_of (take k rs)) q

  taken_only : {n : ℕ} {es : List Entry} → n ≤ 50 * x.pages → Taken t n es → es ≡ off n
  unfolding entries_of
  taken_only h start = refl
  taken_only h (entry {n = n} {a = a} {b = b} {c = c} {es = es} k l y) =
      by_lt (at n) (length rs)
      (λ q.
      let (r, z) = nth_some rs (at n) q in
      let e = rows_same y (row_at n (omega arith) l r z) in
      (λ i. taken_only {n = n} (omega arith) k i ++ record { first = e.0 i; last = e.1 i; size = e.2 i } ∷ []) ∙ off_run n l r z)
      (λ q. absurd (row-not-blank y (blank-at n (omega arith) l q)))
  taken_only h (pages.Taken.blank {n = n} k l y) =
      by_lt (at n) (length rs)
      (λ q. let (r, z) = nth_some rs (at n) q in absurd (row-not-blank (row_at n (omega arith) l r z) y))
      (λ q. taken_only {n = n} (omega arith) k ∙ off_blank n q)
  taken_only h (foot {n = n} k l y) = taken_only {n = n} (omega arith) k ∙ off_foot n l

  taken_is : (n : ℕ) → n ≤ 50 * x.pages → Taken t n (off n)
  unfolding entries_of
  taken_is zero h = start
  taken_is (suc n) h =
      let k : Taken t n (off n) = taken_is n (omega arith) in
      by_eq (n % 50) 49
      (λ e. subst (Taken t (suc n)) (off_foot n e) (foot k e (foot-at n (omega arith) e)))
      (λ e.
      let l : n % 50 < 49 = omega (arith, e) in
      by_lt (at n) (length rs)
      (λ q. let (r, z) = nth_some rs (at n) q in subst (Taken t (suc n)) (off_run n l r z) (entry k l (row_at n (omega arith) l r z)))
      (λ q. subst (Taken t (suc n)) (off_blank n q) (pages.Taken.blank k l (blank-at n (omega arith) l q))))

  all_off : off (50 * x.pages) ≡ entries_of rs
  all_off = ap entries_of (take_all (at (50 * x.pages)) rs (omega (arith, x.paged.all)))

  pub all_only : {es : List Entry} → Taken t (50 * x.pages) es → es ≡ entries_of rs
  all_only k = taken_only {n = 50 * x.pages} (omega arith) k ∙ all_off

  pub all-taken : Taken t (50 * x.pages) (entries_of rs)
  all-taken = subst (Taken t (50 * x.pages)) all_off (taken_is (50 * x.pages) (omega arith))

-- ---- the sum

pub sums : (s : ℕ → Bool) (e i : ℕ) (rs : List Range) (v : ℕ) → ((j : ℕ) → e ≤ j → s j ≡ false) → i ≤ e → Runs s i rs → count_below s i + v ≡ count_below s e → Sums (entries_of rs) v
unfolding entries_of
sums s e i [] v past h (none f) q = let z : 0 ≡ v = omega (arith, count_flat s i e h f) in subst (Sums []) z pages.Sums.none
sums s e i (r ∷ rs) v past h (more a b f m z x) q =
    let e₁ : i + (r.low - i) ≡ r.low = omega arith in
    let e₂ : r.low + size_of r ≡ r.high + 1 = omega arith in
    let below : r.high < e = high_below s e past r.high (m r.high b (omega arith)) in
    let e₃ : r.high + 1 + (e - (r.high + 1)) ≡ e = omega arith in
    let before : count_below s r.low ≡ count_below s i =
    ap (count_below s) (sym e₁) ∙ count_add s i (r.low - i) ∙ omega (arith, count_none (λ j. s (i + j)) (r.low - i) (λ j l. f (i + j) (omega arith) (omega arith))) in
    let inside : count_below s (r.high + 1) ≡ count_below s r.low + size_of r =
    ap (count_below s) (sym e₂) ∙ count_add s r.low (size_of r)
    ∙ ap (λ (k : ℕ). count_below s r.low + k) (count_ones (λ j. s (r.low + j)) (size_of r) (λ j l. m (r.low + j) (omega arith) (omega arith))) in
    let behind : count_below s (r.high + 1) ≤ count_below s e =
    omega (arith, ap (count_below s) (sym e₃) ∙ count_add s (r.high + 1) (e - (r.high + 1))) in
    let w : size_of r + (v - size_of r) ≡ v = omega arith in
    subst (Sums (entry_of r ∷ entries_of rs)) w (pages.Sums.one {e = entry_of r} (sums s e (r.high + 1) rs (v - size_of r) past (omega arith) x (omega arith)))

-- each run has a member or more
pub sums-most : {s : ℕ → Bool} {i v : ℕ} {rs : List Range} → Runs s i rs → Sums (entries_of rs) v → length rs ≤ v
unfolding entries_of
sums-most (none f) y = omega arith
sums-most (more {r = r} a b f m z x) (pages.Sums.one y) = omega (arith, sums-most x y)
