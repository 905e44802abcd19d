-- The maximal runs of a set: that they are found, what they cover, and the next of them by two scans.
use mathlib.Core.Path.{◌≡◌, refl, sym, ap, ◌∙◌, subst}
use mathlib.Core.Bool.{Bool, true, false, not, ◌&&◌, ◌||◌, false≢true}
use mathlib.Core.List.{List, [], ◌∷◌, ◌++◌}
use Prim.Native.Nat.{ℕ, zero, suc, ◌+◌, ◌-◌, ◌*◌, ◌/◌, ◌%◌, ◌^◌, ◌≤◌, ◌<◌}
use native.Mathlib.Omega.{arith}
use lib.Dec.{ltb, leb}
use borrow.Author.Tests.{lt-leb, eq-eqb}
use Rattle.word.specs.Sets.{choose}
use Rattle.word.proofs.Cases.{by_lt, by_eq, and-false, zero_one}
use Rattle.storage.specs.Stores.{Bits, Bounded, view, held, reading, next_from}
use Rattle.text.specs.Lists.{Range, range, covers}
use Rattle.print.specs.Texts.{Nowhere, From, runs_from, runs, first_run, run_from, no_run, size_of, singles, pieces}
use Rattle.print.specs.Kernels.{NextRun}
use Rattle.print.specs.Forms.{Runs, none, more}
use Rattle.print.specs.declared.Run.{Run}
use Rattle.text.proofs.Marks.{between_marks, between_in}
use lib.Bits.{bit_and}
use lib.ListN.{get_or}
use Rattle.storage.specs.Refusals.{answer_number, found_flag, found_value}
use Rattle.storage.specs.Guards.{Passed}
use Rattle.storage.specs.Promises.{NextMember}
use Rattle.storage.specs.declared.Bitmap.{Bitmap}
use Rattle.storage.specs.declared.Refusal.{Refusal}
use Rattle.storage.proofs.Checks.{reading_ok}
use Rattle.storage.proofs.Views.{view-count, bounded_view}
use Rattle.storage.proofs.Promises.{each_number_once, next-member, finds_at, finds_nothing}
use Rattle.scans.specs.Searches.{next_clear}
use Rattle.scans.specs.Promises.{NextOther}
use Rattle.scans.proofs.Promises.{next_other}
use Rattle.slice.proofs.Fields.{bit_of_lem}
use Rattle.storage.specs.Refusals.{Found, Amount}
use Rattle.std.specs.Prelude.{Ok, Err, Some, None}

-- ---- they are found

runs_back : (s : ℕ → Bool) (i : ℕ) (rs : List Range) → s i ≡ false → Runs s (suc i) rs → Runs s i rs
runs_back s i [] e (none f) = none {i = i} (λ j h. by_eq i j (λ x. ap s (sym x) ∙ e) (λ x. f j (omega arith)))
runs_back s i (r ∷ rs) e (more a b f m z x) =
    more {i = i} {r = r} (omega arith) b (λ j h l. by_eq i j (λ y. ap s (sym y) ∙ e) (λ y. f j (omega arith) l)) m z x

runs_to : (s : ℕ → Bool) (i j : ℕ) (rs : List Range) → i ≡ j → Runs s i rs → Runs s j rs
runs_to s i j rs e x = subst (λ (k : ℕ). Runs s k rs) e x

-- a run from a to i - 1, and what follows it
run-closed : (s : ℕ → Bool) (a i : ℕ) (rs : List Range) → a < i → ((j : ℕ) → a ≤ j → j < i → s j ≡ true) → s i ≡ false → Runs s i rs → Runs s a (range a (i - 1) ∷ rs)
run-closed s a i rs h m z x =
    let e : i ≡ i - 1 + 1 = omega arith in
    more {i = a} {r = range a (i - 1)} (omega arith) (omega arith) (λ j p q. absurd (omega arith)) (λ j p q. m j p (omega arith)) (ap s (sym e) ∙ z) (runs_to s i (i - 1 + 1) rs e x)

runs_from_lem : (s : ℕ → Bool) (d i : ℕ) → ((j : ℕ) → i + d ≤ j → s j ≡ false)
    → Runs s i (runs_from s Nowhere d i) × ((a : ℕ) → a < i → ((j : ℕ) → a ≤ j → j < i → s j ≡ true) → Runs s a (runs_from s (From a) d i))
unfolding runs_from
runs_from_lem s zero i f =
    (none {i = i} (λ j h. f j (omega arith)), λ a h m. run-closed s a i [] h m (f i (omega arith)) (none {i = i} (λ j l. f j (omega arith))))
runs_from_lem s (suc d) i f = go (s i) refl (runs_from_lem s d (suc i) (λ j h. f j (omega arith)))
  where
    on : s i ≡ true → (a : ℕ) → ((j : ℕ) → a ≤ j → j < i → s j ≡ true) → (j : ℕ) → a ≤ j → j < suc i → s j ≡ true
    on e a m j p q = by_eq j i (λ x. ap s x ∙ e) (λ x. m j p (omega arith))

    go : (t : Bool) → s i ≡ t
        → Runs s (suc i) (runs_from s Nowhere d (suc i)) × ((a : ℕ) → a < suc i → ((j : ℕ) → a ≤ j → j < suc i → s j ≡ true) → Runs s a (runs_from s (From a) d (suc i)))
        → Runs s i (choose t (runs_from s (From i) d (suc i)) (runs_from s Nowhere d (suc i)))
        × ((a : ℕ) → a < i → ((j : ℕ) → a ≤ j → j < i → s j ≡ true)
        → Runs s a (choose t (runs_from s (From a) d (suc i)) (range a (i - 1) ∷ runs_from s Nowhere d (suc i))))
    go true e ih =
        (ih.1 i (omega arith) (on e i (λ j p q. absurd (omega arith))), λ a h m. ih.1 a (omega arith) (on e a m))
    go false e ih = (
      runs_back s i (runs_from s Nowhere d (suc i)) e ih.0,
      λ a h m. run-closed s a i (runs_from s Nowhere d (suc i)) h m e (runs_back s i (runs_from s Nowhere d (suc i)) e ih.0),
    )

pub runs_are : (b : Bits) → Bounded b → Runs b.members 0 (runs b)
runs_are b h = (runs_from_lem b.members (64 * b.count) 0 (λ j l. h.past j (omega arith))).0

-- ---- they cover exactly the set

between_below : (a b i : ℕ) → i < a → between_marks a b i ≡ false
between_below a b i h = ap (λ (t : Bool). t && leb i b) (lt-leb a i h)

between_above : (a b i : ℕ) → b < i → between_marks a b i ≡ false
between_above a b i h = ap (λ (t : Bool). leb a i && t) (lt-leb i b h) ∙ and-false (leb a i)

-- the pieces of s from i on, rising: no member before a piece, all of it members; and none after the last
pub data Parted (s : ℕ → Bool) : ℕ → List Range → Type 0 where
  done : {i : ℕ} → ((j : ℕ) → i ≤ j → s j ≡ false) → Parted s i []
  piece : {i : ℕ} {r : Range} {rs : List Range} → i ≤ r.low → r.low ≤ r.high → ((j : ℕ) → i ≤ j → j < r.low → s j ≡ false)
      → ((j : ℕ) → r.low ≤ j → j ≤ r.high → s j ≡ true) → Parted s (r.high + 1) rs → Parted s i (r ∷ rs)

runs-parted : (s : ℕ → Bool) (i : ℕ) (rs : List Range) → Runs s i rs → Parted s i rs
runs-parted s i [] (none f) = done f
runs-parted s i (r ∷ rs) (more a b f m z x) = piece a b f m (runs-parted s (r.high + 1) rs x)

parted_below : (s : ℕ → Bool) (i : ℕ) (rs : List Range) → Parted s i rs → (j : ℕ) → j < i → covers rs j ≡ false
unfolding covers
parted_below s i [] (done f) j h = refl
parted_below s i (r ∷ rs) (piece a b f m x) j h =
    ap (λ (t : Bool). t || covers rs j) (between_below r.low r.high j (omega arith)) ∙ parted_below s (r.high + 1) rs x j (omega arith)

pub parted_cover : (s : ℕ → Bool) (i : ℕ) (rs : List Range) → Parted s i rs → (j : ℕ) → i ≤ j → covers rs j ≡ s j
unfolding covers
parted_cover s i [] (done f) j h = sym (f j h)
parted_cover s i (r ∷ rs) (piece a b f m x) j h =
    by_lt j r.low
    (λ p. ap (λ (t : Bool). t || covers rs j) (between_below r.low r.high j p) ∙ parted_below s (r.high + 1) rs x j (omega arith) ∙ sym (f j h p))
    (λ p. by_lt r.high j
    (λ q. ap (λ (t : Bool). t || covers rs j) (between_above r.low r.high j q) ∙ parted_cover s (r.high + 1) rs x j (omega arith))
    (λ q. ap (λ (t : Bool). t || covers rs j) (between_in r.low r.high j p q) ∙ sym (m j p q)))

pub runs_cover : (s : ℕ → Bool) (i : ℕ) (rs : List Range) → Runs s i rs → (j : ℕ) → i ≤ j → covers rs j ≡ s j
runs_cover s i rs x = parted_cover s i rs (runs-parted s i rs x)

-- ---- runs, whole or number by number, are pieces

parted_back : (s : ℕ → Bool) (i a : ℕ) (ps : List Range) → i ≤ a → ((j : ℕ) → i ≤ j → j < a → s j ≡ false) → Parted s a ps → Parted s i ps
parted_back s i a [] h f (done g) = done {i = i} (λ j l. by_lt j a (λ q. f j l q) (λ q. g j q))
parted_back s i a (r ∷ ps) h f (piece x b g m p) = piece {i = i} {r = r} (omega arith) b (λ j l q. by_lt j a (λ u. f j l u) (λ u. g j u q)) m p

singles-parted : (s : ℕ → Bool) (n a : ℕ) (ps : List Range) → ((j : ℕ) → a ≤ j → j < a + n → s j ≡ true) → Parted s (a + n) ps → Parted s a (singles a n ++ ps)
unfolding singles
singles-parted s zero a ps m p = let e : a + 0 ≡ a = omega arith in subst (λ (k : ℕ). Parted s k ps) e p
singles-parted s (suc n) a ps m p =
    let e : a + suc n ≡ suc a + n = omega arith in
    let k : suc a ≡ a + 1 = omega arith in
    piece {i = a} {r = range a a} (omega arith) (omega arith) (λ j l q. absurd (omega arith)) (λ j l q. m j l (omega arith))
    (subst (λ (z : ℕ). Parted s z (singles (suc a) n ++ ps)) k
    (singles-parted s n (suc a) ps (λ j l q. m j (omega arith) (omega arith)) (subst (λ (z : ℕ). Parted s z ps) e p)))

pub pieces-parted : (k : ℕ) (s : ℕ → Bool) (i : ℕ) (rs : List Range) → Runs s i rs → Parted s i (pieces k rs)
unfolding pieces
pieces-parted k s i [] (none f) = done f
pieces-parted k s i (r ∷ rs) (more a b f m z x) = go (ltb (size_of r) k) (pieces-parted k s (r.high + 1) rs x)
  where
    e : r.high + 1 ≡ r.low + size_of r
    e = omega arith

    go : (t : Bool) → Parted s (r.high + 1) (pieces k rs) → Parted s i (choose t (singles r.low (size_of r)) (r ∷ []) ++ pieces k rs)
    go true p =
        parted_back s i r.low (singles r.low (size_of r) ++ pieces k rs) a f
        (singles-parted s (size_of r) r.low (pieces k rs) (λ j l q. m j l (omega arith)) (subst (λ (n : ℕ). Parted s n (pieces k rs)) e p))
    go false p = piece a b f m p

-- ---- the next of them

-- none is left
pub next_none : (s : ℕ → Bool) (e i : ℕ) (run : Run) (rs : List Range) → ((j : ℕ) → e ≤ j → s j ≡ false) → NextRun s e i run → run.end ≤ run.low → Runs s i rs → rs ≡ []
next_none s e i run [] past n h x = refl
next_none s e i run (r ∷ rs) past n h (more a b f m z x) =
    absurd
    (false≢true
    (sym (by_lt r.low run.low (λ l. n.before r.low a l) (λ l. past r.low (omega (arith, n.none (omega (arith, n.order))))))
    ∙ m r.low (omega arith) b))

-- the run is the first of those left
pub next_some : (s : ℕ → Bool) (e i : ℕ) (run : Run) (rs : List Range) → NextRun s e i run → run.low < run.end → Runs s i rs
    → (qs : List Range) × (rs ≡ range run.low (run.end - 1) ∷ qs) × Runs s run.end qs
next_some s e i run [] n h (none f) = absurd (false≢true (sym (f run.low n.from) ∙ n.all run.low (omega arith) h))
next_some s e i run (r ∷ rs) n h (more a b f m z x) =
    (rs, (λ k. range (low k) (high k) ∷ rs), runs_to s (r.high + 1) run.end rs end x)
  where
    low : r.low ≡ run.low
    low =
        by_lt r.low run.low
        (λ l. absurd (false≢true (sym (n.before r.low a l) ∙ m r.low (omega arith) b)))
        (λ l. by_lt run.low r.low (λ k. absurd (false≢true (sym (f run.low n.from k) ∙ n.all run.low (omega arith) h))) (λ k. omega arith))

    end : r.high + 1 ≡ run.end
    end =
        by_lt (r.high + 1) run.end
        (λ l. absurd (false≢true (sym z ∙ n.all (r.high + 1) (omega (arith, low)) l)))
        (λ l. by_lt run.end (r.high + 1)
        (λ k. absurd (false≢true (sym (n.stops h) ∙ m run.end (omega (arith, low)) (omega arith))))
        (λ k. omega arith))

    high : r.high ≡ run.end - 1
    high = omega (arith, end)

-- the first of those left, with its ends
next_first : (s : ℕ → Bool) (e i : ℕ) (rs : List Range) → ((j : ℕ) → e ≤ j → s j ≡ false) → i ≤ e → Runs s i rs → NextRun s e i (first_run e rs)
next_first s e i [] past l (none f) = record {
  from = l;
  order = omega arith;
  within = omega arith;
  before = λ j p q. f j p;
  all = λ j p q. absurd (omega arith);
  stops = λ p. absurd (omega arith);
  none = λ p. refl;
}
next_first s e i (r ∷ rs) past l (more a b f m z x) = record {
  from = a;
  order = omega arith;
  within = by_lt r.high e (λ q. omega arith) (λ q. absurd (false≢true (sym (past r.high q) ∙ m r.high b (omega arith))));
  before = f;
  all = λ j p q. m j p (omega arith);
  stops = λ p. z;
  none = λ p. absurd (omega arith);
}

module _ (b : Bits) (h : Bounded b) (i : ℕ) (l : i ≤ 64 * b.count) where
  abbrev e : ℕ
  e = 64 * b.count

  abbrev rest : List Range
  rest = runs_from b.members Nowhere (e - i) i

  left : Runs b.members i rest
  left = (runs_from_lem b.members (e - i) i (λ j q. h.past j (omega arith))).0

  pub run-next : NextRun b.members e i (run_from b i)
  unfolding run_from
  run-next = next_first b.members e i rest h.past l left

  run_is : (r : Run) → NextRun b.members e i r → r ≡ run_from b i
  unfolding run_from
  run_is r n =
      by_lt r.low r.end
      (λ q.
      let k : r.end ≡ r.end - 1 + 1 = omega arith in
      (λ j. record { low = r.low; end = k j }) ∙ ap (first_run e) (sym (next_some b.members e i r rest n q left).1))
      (λ q.
      let p : r.end ≡ e = n.none (omega (arith, n.order)) in
      let k : r.low ≡ e = omega (arith, n.order) in
      (λ j. record { low = k j; end = p j }) ∙ ap (first_run e) (sym (next_none b.members e i r rest h.past n q left)))

-- past the length there is none
pub run_past : (b : Bits) (i : ℕ) → 64 * b.count ≤ i → run_from b i ≡ record { low = 64 * b.count; end = 64 * b.count }
unfolding run_from runs_from
run_past b i h = let e : 64 * b.count - i ≡ 0 = omega arith in ap (λ (d : ℕ). first_run (64 * b.count) (runs_from b.members Nowhere d i)) e

-- ---- the next run, by two scans

module _ (ws : List ℕ) (b : Bitmap) (i : ℕ) (p : Passed ws b) where
  abbrev n : ℕ
  n = b.count

  abbrev s : Bits
  s = held ws b

  bound : Bounded s
  bound = bounded_view ws n

  -- the length is past every member
  below : (j : ℕ) → s.members j ≡ true → j < 64 * n
  below j e = by_lt j (64 * n) (λ h. h) (λ h. absurd (false≢true (sym (bound.past j (omega (arith, view-count ws n))) ∙ e)))

  module _ (f : Found) (ef : f ≡ reading ws b Err (λ s. next_from s i)) where
    abbrev is : Found → Type 0
    is a = NextMember s.members i (answer_number a) (found_flag a) (found_value a)

    member : is f
    member = subst is (sym (ef ∙ reading_ok ws b Err (λ s. next_from s i) p)) (next-member s bound i)

    abbrev first : ℕ → Type 0
    first x = (i ≤ x) × (s.members x ≡ true) × ((q : ℕ) → i ≤ q → q < x → s.members q ≡ false)

    abbrev nowhere : Type 0
    nowhere = (q : ℕ) → i ≤ q → s.members q ≡ false

    at : (x : ℕ) → f ≡ Ok (Some x) → first x
    at x e = finds_at first nowhere x (subst is e member)

    pub start_below : (x : ℕ) → f ≡ Ok (Some x) → x < 64 * n
    start_below x e = below x (at x e).1

    pub run_none : i ≤ 64 * n → f ≡ (Ok None) → NextRun s.members (64 * n) i (record { low = 64 * n; end = 64 * n })
    run_none h e =
        let q : nowhere = finds_nothing first nowhere (subst is e member) in
        record {
          from = h;
          order = omega arith;
          within = omega arith;
          before = λ j l k. q j l;
          all = λ j l k. absurd (omega arith);
          stops = λ l. absurd (omega arith);
          none = λ e. refl;
        }

    pub found_never : (e : Refusal) → f ≡ Err e → ⊥
    found_never e q = omega (arith, (each_number_once.range e).0, (subst is q member).0)

    -- a run of one number
    pub run-single : (x : ℕ) → f ≡ Ok (Some x) → s.members (x + 1) ≡ false → NextRun s.members (64 * n) i (record { low = x; end = x + 1 })
    run-single x ex z = record {
      from = (at x ex).0;
      order = omega arith;
      within = omega (arith, start_below x ex);
      before = λ j l k. (at x ex).2 j l k;
      all = λ j l k. let e : j ≡ x = omega arith in ap s.members e ∙ (at x ex).1;
      stops = λ l. z;
      none = λ e. absurd (omega arith);
    }

    module _ (x : ℕ) (ex : f ≡ Ok (Some x)) (m : Amount) (em : m ≡ reading ws b Err (λ s. Ok (next_clear s (x + 1)))) where
      clear : m ≡ Ok (next_clear s (x + 1))
      clear = em ∙ reading_ok ws b Err (λ s. Ok (next_clear s (x + 1))) p

      pub clear_never : (e : Refusal) → m ≡ Err e → ⊥
      clear_never e q = let z : Err e ≡ Ok (next_clear s (x + 1)) = sym q ∙ clear in zero_one cc

      pub run-found : (end : ℕ) → m ≡ Ok end → NextRun s.members (64 * n) i (record { low = x; end = end })
      run-found end q = record {
        from = (at x ex).0;
        order = omega (arith, o.from);
        within = by_lt (64 * n) end (λ l. absurd (omega (arith, below (end - 1) (all (end - 1) (omega (arith, o.from)) (omega (arith, o.from)))))) (λ l. l);
        before = λ j l k. (at x ex).2 j l k;
        all = all;
        stops = λ l. o.other;
        none = λ e. absurd (omega (arith, o.from));
      }
        where
          same : next_clear s (x + 1) ≡ end
          same = let z : Ok (next_clear s (x + 1)) ≡ Ok end = sym clear ∙ q in cc

          o : NextOther s (x + 1) end
          o = subst (NextOther s (x + 1)) same (next_other s bound (x + 1))

          all : (j : ℕ) → x ≤ j → j < end → s.members j ≡ true
          all j l k = by_eq j x (λ e. ap s.members e ∙ (at x ex).1) (λ e. o.between j (omega arith) k)

-- ---- what `run_from` answers

module _ (ws : List ℕ) (b : Bitmap) (i : ℕ) (p : Passed ws b) where
  abbrev asked : Run
  asked = reading ws b (λ e. no_run) (λ s. run_from s i)

  told : asked ≡ run_from (held ws b) i
  told = reading_ok ws b (λ e. no_run) (λ s. run_from s i) p

  pub answer-past : 64 * b.count ≤ i → record { low = 64 * b.count; end = 64 * b.count } ≡ asked
  unfolding view
  answer-past h = sym (told ∙ run_past (held ws b) i h)

  pub answer-next : i ≤ 64 * b.count → (r : Run) → NextRun (held ws b).members (64 * b.count) i r → r ≡ asked
  unfolding view
  answer-next h r x = run_is (held ws b) (bounded_view ws b.count) i h r x ∙ sym told

  pub next-answer : i ≤ 64 * b.count → (r : Run) → r ≡ asked → NextRun (held ws b).members (64 * b.count) i r
  unfolding view
  next-answer h r x = subst (NextRun (held ws b).members (64 * b.count) i) (sym (x ∙ told)) (run-next (held ws b) (bounded_view ws b.count) i h)

-- a number whose bit is 0 is no member
pub clear_bit : (ws : List ℕ) (n i : ℕ) → i / 64 < n → bit_and (get_or ws (i / 64) 0 / 2 ^ (i % 64)) 1 ≡ 0 → (view ws n).members i ≡ false
clear_bit ws n i h e = sym (bit_of_lem ws n i h) ∙ ap not (eq-eqb (bit_and (get_or ws (i / 64) 0 / 2 ^ (i % 64)) 1) 0 e)
