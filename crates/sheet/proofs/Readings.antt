-- Demand 3 of readings into stores: the promises of specs/Promises about `Reads`.
use Prim.Native.Nat.{ℕ, suc, ◌≤◌, ◌<◌}
use mathlib.Core.Path.{◌≡◌, refl, sym, ap, ◌∙◌, subst}
use mathlib.Core.Bool.{true, false}
use mathlib.Core.List.{List}
use mathlib.Core.Logic.{◌↔◌, ◌⊎◌, inl, inr}
use mathlib.Core.Option.{Option, none, some}
use native.Mathlib.Omega.{arith}
use native.Mathlib.Decide.{dec_le, ℕ_discrete}
use lib.ListN.{length, get_or}
use lib.Seq.{ext_get_or}
use lib.Dec.{ltb}
use borrow.Author.Tests.{le-leb, lt-leb, lt-ltb}
use Rattle.word.specs.Sets.{choose}
use Rattle.word.specs.Places.{member, word_of, tab_from}
use Rattle.word.proofs.Cases.{by_lt}
use Rattle.word.proofs.Lists.{past, length_tab, tab_at, tab_is}
use Rattle.storage.specs.Refusals.{number_of}
use Rattle.storage.specs.Stores.{Bits, Space, no_words, space_of, view, held, word_at, written, zeroed}
use Rattle.storage.specs.Guards.{Stopped, Passed}
use Rattle.storage.specs.declared.Bitmap.{Bitmap}
use Rattle.storage.specs.declared.Refusal.{Refusal}
use Rattle.storage.specs.declared.Refusal.TheVariants.{NoSpace, NoEdition}
use Rattle.storage.proofs.Checks.{checked_ok, refuses, stop_number, passed_as}
use Rattle.storage.proofs.Checks as checks
use Rattle.storage.proofs.Stores.{length-zeroed, zeroed_in}
use Rattle.storage.proofs.Views.{bounded_view, view-count}
use Rattle.storage.proofs.Promises.{each_number_once, space_rules}
use Rattle.sheet.specs.Kinds.{Row, row_of, size_by, size_in}
use Rattle.editions.specs.Reader.{Turn, stop, next, Answer, refused, done, read}
use Rattle.editions.specs.Meaning.{AtRecord, Newer, Fails, Applies, not-sheet, unfit, cut, newer, bad, fails, remain, Accepted, Due, Holds}
use Rattle.sheet.specs.Paper.{IsEdition}
use Rattle.sheet.specs.Reads.{edition_of, latest, is_edition, fitting, Course, stopped, went, course, read_answer, read_store, Reads, reading_number, reading_record, reading_count}
use Rattle.sheet.specs.Promises.{Passes, Stops, no_edition, old_stopped, result_stopped, Gets, stops, applies, accepted, NamesNewer, MadeResult, ReadingMeans, ReadsMean, SameAnswer, KeepsMeaning}
use Rattle.editions.proofs.Turns.{none_some, stop_next, stop_inj, next_inj, take-true, take-false}
use Rattle.editions.proofs.Exact.{refusal_of, exact}
use Rattle.editions.proofs.Editions.{any_two}
use Rattle.sheet.proofs.Payloads.{asks-ranged}
use Rattle.sheet.proofs.Effects.{KeptIn, effect_kept, step_stops}
use Rattle.sheet.specs.Reads.{Reading}

-- ---- 14, 1 and 2

edition-true : (n : ℕ) → IsEdition n → is_edition n ≡ true
edition-true n (inl e) = ap is_edition e
edition-true n (inr e) = ap is_edition e

edition-false : (n : ℕ) → ¬ IsEdition n → is_edition n ≡ false
edition-false n h = go (dec_le 1 n) (dec_le n latest)
  where
    go : Dec (1 ≤ n) → Dec (n ≤ latest) → is_edition n ≡ false
    go (yes a) (yes b) = absurd (h (by_lt n latest (λ l. inl (omega arith)) (λ l. inr (omega arith))))
    go (yes a) (no b) = rw (le-leb 1 n a, lt-leb n latest (omega arith)) refl
    go (no a) b = rw (lt-leb 1 n (omega arith)) refl

edition? : (n : ℕ) → Dec (IsEdition n)
edition? n = go (ℕ_discrete n 1) (ℕ_discrete n 2)
  where
    go : Dec (n ≡ 1) → Dec (n ≡ 2) → Dec (IsEdition n)
    go (yes a) b = yes (inl a)
    go (no a) (yes b) = yes (inr b)
    go (no a) (no b) = no (λ h. elim h [ inl e ↦ a e | inr e ↦ b e ])

module _ (n : ℕ) (ws : List ℕ) (b : Bitmap) (res : List ℕ) where
  abbrev space : Space
  space = space_of res

  -- one of them stops the reading, or it passes
  which_way : ((x : ℕ) × Stops n ws b res x) ⊎ Passes n ws b res
  which_way = go (edition? n) (checks.which_way ws b) (checks.which_way res no_words)
    where
      go : Dec (IsEdition n) → ((x : ℕ) × Stopped ws b x) ⊎ Passed ws b → ((x : ℕ) × Stopped res no_words x) ⊎ Passed res no_words
          → ((x : ℕ) × Stops n ws b res x) ⊎ Passes n ws b res
      go (no h) o q = inl (14, no_edition h refl)
      go (yes h) (inl (x, s)) q = inl (x, old_stopped h s)
      go (yes h) (inr p) (inl (x, s)) = inl (x, result_stopped h p s)
      go (yes h) (inr p) (inr q) = inr (record { edition = h; old = p; result = q })

  -- none of them is done or a newer kind
  stops_number : (x : ℕ) → Stops n ws b res x → (0 < x) × (x ≡ 13 → ⊥)
  stops_number x (no_edition h q) = (omega arith, λ z. omega arith)
  stops_number x (old_stopped h s) = stop_number ws b x s
  stops_number x (result_stopped h p s) = stop_number res no_words x s

  module _ (sheet : List ℕ) where
    abbrev reading : Answer Bits
    reading = read (edition_of space n) sheet (fitting space (held ws b))

    pub course-passes : Passes n ws b res → course n sheet ws b res ≡ went reading
    unfolding course
    course-passes p =
        take-true _ _ (edition-true n p.edition) ∙ checked_ok ws b stopped _ p.old
        ∙ checked_ok res no_words stopped (went reading) p.result

    -- stopped, by that number
    pub record Halts (x : ℕ) : Type 0 where
      pub why : Refusal
      pub is : course n sheet ws b res ≡ stopped why
      pub number : number_of why ≡ x

    course_stops : (x : ℕ) → Stops n ws b res x → Halts x
    unfolding course
    course_stops x (no_edition h q) = record { why = NoEdition; is = take-false _ _ (edition-false n h); number = sym q }
    course_stops x (old_stopped h s) =
        let t = refuses ws b x s in
        record { why = t.why; is = take-true _ _ (edition-true n h) ∙ t.is _ stopped _; number = t.number }
    course_stops x (result_stopped h p s) =
        let t = refuses res no_words x s in
        record { why = t.why; is = take-true _ _ (edition-true n h) ∙ checked_ok ws b stopped _ p ∙ t.is _ stopped (went reading); number = t.number }

-- ---- what is answered and left

-- number, record and word count of what a reading came to
abbrev Says : Reading → ℕ → ℕ → ℕ → Type 0
Says r x k t = (reading_number r ≡ x) × (reading_record r ≡ k) × (reading_count r ≡ t)

positive : (e : Refusal) → number_of e ≡ 0 → ⊥
positive e q = omega (arith, (each_number_once.range e).0)

-- the old bitmap where its count is within the store, and 6 where it is not
pub fits-old : (ws : List ℕ) (m c : ℕ) → m ≤ c → fitting c (view ws m) ≡ next (view ws m)
fits-old ws m c l = take-true _ _ (le-leb (view ws m).count c (subst (λ (x : ℕ). x ≤ c) (sym (view-count ws m)) l))

fits_not : (ws : List ℕ) (m c : ℕ) → c < m → fitting c (view ws m) ≡ stop NoSpace
fits_not ws m c l = take-false _ _ (lt-leb (view ws m).count c (subst (λ (x : ℕ). c < x) (sym (view-count ws m)) l))

kept-start : (ws : List ℕ) (m c : ℕ) (s : Bits) → fitting c (view ws m) ≡ next s → KeptIn c s
kept-start ws m c s q =
    by_lt c m
    (λ l. absurd (stop_next (sym (fits_not ws m c l) ∙ q)))
    (λ l. subst (KeptIn c) (next_inj (sym (fits-old ws m c l) ∙ q))
    (record { bounded = bounded_view ws m; space = subst (λ (x : ℕ). x ≤ c) (sym (view-count ws m)) l }))

module _ (n : ℕ) (sheet ws : List ℕ) (b : Bitmap) (res : List ℕ) (r : Reading) (res' : List ℕ) (h : Reads n sheet ws b res r res') where
  abbrev c : ℕ
  c = length res

  abbrev answer : Answer Bits
  answer = read (edition_of c n) sheet (fitting c (held ws b))

  passed : Passes n ws b res → r ≡ read_answer (went answer)
  passed p = h.answers ∙ ap read_answer (course-passes n ws b res sheet p)

  left : Passes n ws b res → res' ≡ read_store (went answer) res
  left p = h.leaves ∙ ap (λ (x : Course). read_store x res) (course-passes n ws b res sheet p)

  halted : (x : ℕ) → Stops n ws b res x → Says r x 0 0
  halted x s =
      let a = course_stops n ws b res sheet x s in
      let q = h.answers ∙ ap read_answer a.is in
      (ap reading_number q ∙ a.number, ap reading_record q, ap reading_count q)

  untouched : (x : ℕ) → Stops n ws b res x → res' ≡ res
  untouched x s = h.leaves ∙ ap (λ (y : Course). read_store y res) (course_stops n ws b res sheet x s).is

  says_refused : (e : Refusal) (k : ℕ) → Passes n ws b res → answer ≡ refused e k → Says r (number_of e) k 0
  says_refused e k p a = let q = passed p ∙ ap (λ (x : Answer Bits). read_answer (went x)) a in (ap reading_number q, ap reading_record q, ap reading_count q)

  says_done : (k : ℕ) (s : Bits) → Passes n ws b res → answer ≡ done k s → Says r 0 k s.count
  says_done k s p a = let q = passed p ∙ ap (λ (x : Answer Bits). read_answer (went x)) a in (ap reading_number q, ap reading_record q, ap reading_count q)

  -- what it says is due
  due : Gets n sheet ws b res (reading_number r) (reading_record r) (reading_count r)
  due = go (which_way n ws b res)
    where
      is_answer : (x : Answer Bits) → answer ≡ x → Due (edition_of c n) sheet (fitting c (held ws b)) x
      is_answer x a = (exact _ _ (edition_of c n) sheet (fitting c (held ws b)) x).0 a

      on : Passes n ws b res → (x : Answer Bits) → answer ≡ x → Gets n sheet ws b res (reading_number r) (reading_record r) (reading_count r)
      on p (refused e k) a = let (x, y, z) = says_refused e k p a in rw (x, y, z) (applies p (is_answer (refused e k) a) refl)
      on p (done k s) a = let (x, y, z) = says_done k s p a in rw (x, y, z) (accepted p s (is_answer (done k s) a) refl refl)

      go : ((x : ℕ) × Stops n ws b res x) ⊎ Passes n ws b res → Gets n sheet ws b res (reading_number r) (reading_record r) (reading_count r)
      go (inl (x, s)) = let (a, b, d) = halted x s in rw (a, b, d) (stops s refl refl)
      go (inr p) = on p answer refl

  -- and what is due it says
  said : (x k t : ℕ) → Gets n sheet ws b res x k t → Says r x k t
  said x k t (stops s z y) = let (a, b, d) = halted x s in (a, b ∙ sym z, d ∙ sym y)
  said x k t (applies p a y) =
      let (e, q) = refusal_of (edition_of c n) sheet (fitting c (held ws b)) x k a in
      let g : Applies (edition_of c n) sheet (fitting c (held ws b)) (number_of e) k = subst (λ (x : ℕ). Applies (edition_of c n) sheet (fitting c (held ws b)) x k) (sym q) a in
      let (u, v, w) = says_refused e k p ((exact _ _ (edition_of c n) sheet (fitting c (held ws b)) (refused e k)).1 g) in
      (u ∙ q, v, w ∙ sym y)
  said x k t (accepted p s a z y) =
      let (u, v, w) = says_done k s p ((exact _ _ (edition_of c n) sheet (fitting c (held ws b)) (done k s)).1 a) in
      (u ∙ sym z, v, w ∙ sym y)

  answer_exact : (x k t : ℕ) → Says r x k t ↔ Gets n sheet ws b res x k t
  answer_exact x k t = ((λ q. rw (← q.0, ← q.1, ← q.2) due), said x k t)

  makes : reading_number r ≡ 0 → MadeResult n sheet ws b res (reading_record r) (reading_count r) res'
  makes q = go (which_way n ws b res)
    where
      on : Passes n ws b res → (x : Answer Bits) → answer ≡ x → MadeResult n sheet ws b res (reading_record r) (reading_count r) res'
      on p (refused e k) a = absurd (positive e (sym (says_refused e k p a).0 ∙ q))
      on p (done k s) a =
          let (u, v, w) = says_done k s p a in
          let t = (exact _ _ (edition_of c n) sheet (fitting c (held ws b)) (done k s)).0 a in
          let start = kept-start ws b.count c t.reached.from t.reached.fits in
          let kept : KeptIn c s = subst (KeptIn c) t.makes (effect_kept c n _ t.reached.from t.reached.state start t.reached.applied) in
          let stored : res' ≡ written res c s = left p ∙ ap (λ (x : Answer Bits). read_store (went x) res) a in
          let rules = space_rules res c s kept.space (omega arith) in
          record {
            passes = p;
            state = s;
            accepted = subst (λ (j : ℕ). Accepted (edition_of c n) sheet (fitting c (held ws b)) j s) (sym v) t;
            count = w;
            space = subst (λ (x : ℕ). x ≤ c) (sym w) kept.space;
            bounded = kept.bounded;
            long = ap length stored ∙ rules.long;
            members = λ i u. ap (λ (x : List ℕ). member x i) stored ∙ rules.used i (omega (arith, w));
            zeros = λ j u.
                by_lt j c
                (λ v. ap (λ (x : List ℕ). get_or x j 0) stored ∙ rules.dropped j (omega (arith, w)) v)
                (λ v. past res' j (omega (arith, ap length stored ∙ rules.long)));
          }

      go : ((x : ℕ) × Stops n ws b res x) ⊎ Passes n ws b res → MadeResult n sheet ws b res (reading_record r) (reading_count r) res'
      go (inl (x, s)) = absurd (omega (arith, (stops_number n ws b res x s).0, (halted x s).0))
      go (inr p) = on p answer refl

  -- a step of the table has no other number than 6, so 13 is the newer kind's alone
  newer_exact : (k : ℕ) → ((reading_number r ≡ 13) × (reading_record r ≡ k)) ↔ NamesNewer n sheet ws b res k
  newer_exact k = ((λ q. to (subst (λ (j : ℕ). Gets n sheet ws b res (reading_number r) j (reading_count r)) q.1 due) q.0), λ a. back a)
    where
      old : Turn Bits
      old = fitting c (held ws b)

      step_fails : Passes n ws b res → (why : Refusal) (a : AtRecord (edition_of c n) sheet old k (Fails (edition_of c n) sheet why)) → number_of why ≡ 6
      step_fails p why a =
          let (q, _, e, asks, f) = a.here in
          let g = a.reached in
          let kept : KeptIn c g.state = effect_kept c n g.edits g.from g.state (kept-start ws b.count c g.from g.fits) g.applied in
          step_stops c n (suc a.index) e g.state why p.result.short kept (asks-ranged n c q e asks) f

      unfits : (why : Refusal) → old ≡ stop why → number_of why ≡ 6
      unfits why q =
          by_lt c b.count
          (λ l. let z : why ≡ NoSpace = stop_inj (sym q ∙ fits_not ws b.count c l) in ap number_of z)
          (λ l. absurd (stop_next (sym q ∙ fits-old ws b.count c l)))

      on : (x : ℕ) → Passes n ws b res → Applies (edition_of c n) sheet old x k → x ≡ 13 → NamesNewer n sheet ws b res k
      on x p (not-sheet g q z) e = absurd (omega arith)
      on x p (unfit g why u q z) e = absurd (omega (arith, unfits why u))
      on x p (cut a q) e = absurd (omega arith)
      on x p (newer a q) e = (p, a)
      on x p (bad a q) e = absurd (omega arith)
      on x p (fails why a q) e = absurd (omega (arith, step_fails p why a))
      on x p (remain g l q z) e = absurd (omega arith)

      to : {x t : ℕ} → Gets n sheet ws b res x k t → x ≡ 13 → NamesNewer n sheet ws b res k
      to {x} (stops s z y) e = absurd ((stops_number n ws b res x s).1 e)
      to {x} (applies p a y) e = on x p a e
      to (accepted p s a z y) e = absurd (omega arith)

      back : NamesNewer n sheet ws b res k → (reading_number r ≡ 13) × (reading_record r ≡ k)
      back a = let (u, v, w) = said 13 k 0 (applies a.0 (newer a.1 refl) refl) in (u, v)

  cleared : Passes n ws b res → 0 < reading_number r → (length res' ≡ length res) × ((j : ℕ) → get_or res' j 0 ≡ 0)
  cleared p l = go answer refl
    where
      go : (x : Answer Bits) → answer ≡ x → (length res' ≡ length res) × ((j : ℕ) → get_or res' j 0 ≡ 0)
      go (refused e k) a =
          let w : res' ≡ zeroed 0 c res = left p ∙ ap (λ (x : Answer Bits). read_store (went x) res) a in
          let l : length res' ≡ length res = ap length w ∙ length-zeroed 0 c res in
          (l, λ j. by_lt j c (λ u. ap (λ (x : List ℕ). get_or x j 0) w ∙ zeroed_in 0 c res j (omega arith) u) (λ u. past res' j (omega arith)))
      go (done k s) a = absurd (omega (arith, (says_done k s p a).0))

  means : ReadingMeans n sheet ws b res r res'
  means = record {
    made = makes;
    exact = answer_exact;
    fits = fits-old ws b.count c;
    lacks = λ l. (NoSpace, fits_not ws b.count c l, refl);
    newer = newer_exact;
    untouched = untouched;
    cleared = cleared;
  }

-- (a) and (c): what a reading answers and leaves
pub reading_means : ReadsMean
reading_means = means

-- ---- two editions

-- a later edition of the table holds an earlier one
size_later : (e f b : ℕ) (o : Option Row) → e ≤ f → size_by e o ≡ some b → size_by f o ≡ some b
size_later e f b none l q = absurd (none_some q)
size_later e f b (some r) l q =
    by_lt e r.since
    (λ u. absurd (none_some (sym (take-false _ _ (lt-leb r.since e u)) ∙ q)))
    (λ u. take-true _ _ (le-leb r.since f (omega arith)) ∙ sym (take-true _ _ (le-leb r.since e u)) ∙ q)

pub later_holds : (c e f : ℕ) → e ≤ f → Holds (edition_of c e) (edition_of c f)
unfolding edition_of size_in
later_holds c e f l =
    record { size-kept = λ k b q. size_later e f b (row_of k) l q; rule_kept = λ k b p q h. refl; step_kept = λ k b p x q h g i s. refl }

-- what is left after 14, 1 and 2 depends on the store's size alone
pub same-written : (s : Bits) (xs ys : List ℕ) → length xs ≡ length ys → written xs (length xs) s ≡ written ys (length ys) s
unfolding written word_at
same-written s xs ys e =
    tab_is (length ys) (word_at ys (length ys) s) (tab_from 0 (length xs) (word_at xs (length xs) s)) (length_tab 0 (length xs) (word_at xs (length xs) s) ∙ e)
    (λ k l.
    tab_at (length xs) (word_at xs (length xs) s) k (omega arith)
    ∙ ap (choose (ltb k s.count) (word_of s.members k)) (take-true _ _ (lt-ltb k (length xs) (omega arith)) ∙ sym (take-true _ _ (lt-ltb k (length ys) l))))

pub same-zeros : (xs ys : List ℕ) → length xs ≡ length ys → zeroed 0 (length xs) xs ≡ zeroed 0 (length ys) ys
same-zeros xs ys e =
    ext_get_or 0 (zeroed 0 (length xs) xs) (zeroed 0 (length ys) ys) (length-zeroed 0 (length xs) xs ∙ e ∙ sym (length-zeroed 0 (length ys) ys))
    (λ k l.
    zeroed_in 0 (length xs) xs k (omega arith) (omega (arith, length-zeroed 0 (length xs) xs))
    ∙ sym (zeroed_in 0 (length ys) ys k (omega arith) (omega (arith, length-zeroed 0 (length xs) xs))))

same_store : (a : Answer Bits) (xs ys : List ℕ) → length xs ≡ length ys → read_store (went a) xs ≡ read_store (went a) ys
same_store (refused d k) xs ys e = same-zeros xs ys e
same_store (done k s) xs ys e = same-written s xs ys e

-- (b), of editions 1 and 2 and of any two of the table
pub keeps_meaning : KeepsMeaning
keeps_meaning e f ge gf l sheet ws b res₁ res₂ size words r₁ r₂ res₁' res₂' h₁ h₂ = go (which_way e ws b res₁)
  where
    c : ℕ
    c = length res₁

    later : Passes e ws b res₁ → Passes f ws b res₂
    later p = record { edition = gf; old = p.old; result = passed_as res₁ res₂ no_words 0 (sym size) (omega arith) p.result }

    also : (x : ℕ) → Stops e ws b res₁ x → Stops f ws b res₂ x
    also x (no_edition g q) = absurd (g ge)
    also x (old_stopped g s) = old_stopped gf s
    also x (result_stopped g p s) = result_stopped gf p (subst (λ (y : List ℕ). Stopped y no_words x) (words x (result_stopped g p s)) s)

    earlier : Answer Bits
    earlier = read (edition_of c e) sheet (fitting c (held ws b))

    first : Passes e ws b res₁ → course e sheet ws b res₁ ≡ went earlier
    first p = course-passes e ws b res₁ sheet p

    second : Passes e ws b res₁ → course f sheet ws b res₂ ≡ went (read (edition_of c f) sheet (fitting c (held ws b)))
    second p =
        course-passes f ws b res₂ sheet (later p)
        ∙ ap (λ (x : ℕ). went (read (edition_of x f) sheet (fitting x (held ws b)))) (sym size)

    answered : Passes e ws b res₁ → r₁ ≡ read_answer (went earlier)
    answered p = h₁.answers ∙ ap read_answer (first p)

    Ends : Type 0
    Ends = (SameAnswer r₁ r₂ × (res₁' ≡ res₂')) ⊎ ((reading_number r₁ ≡ 13) × NamesNewer e sheet ws b res₁ (reading_record r₁))

    compare : Passes e ws b res₁
        → (earlier ≡ read (edition_of c f) sheet (fitting c (held ws b))) ⊎
        ((why : Refusal) × (k : ℕ) × (earlier ≡ refused why k) × (number_of why ≡ 13) × AtRecord (edition_of c e) sheet (fitting c (held ws b)) k
        (Newer (edition_of c e) sheet))
        → Ends
    compare p (inl q) =
        let same : r₁ ≡ r₂ = answered p ∙ ap (λ (x : Answer Bits). read_answer (went x)) q ∙ sym (h₂.answers ∙ ap read_answer (second p)) in
        inl (
          (ap reading_number same, ap reading_record same, ap reading_count same),
          h₁.leaves ∙ ap (λ (y : Course). read_store y res₁) (first p ∙ ap went q) ∙ same_store (read (edition_of c f) sheet (fitting c (held ws b))) res₁ res₂ size
              ∙ sym (h₂.leaves ∙ ap (λ (y : Course). read_store y res₂) (second p)),
        )
    compare p (inr (why, k, q, x, a)) =
        let is : r₁ ≡ read_answer (went (refused why k)) = answered p ∙ ap (λ (y : Answer Bits). read_answer (went y)) q in
        inr (ap reading_number is ∙ x, (p, subst (λ (j : ℕ). AtRecord (edition_of c e) sheet (fitting c (held ws b)) j (Newer (edition_of c e) sheet)) (sym (ap reading_record is)) a))

    go : ((x : ℕ) × Stops e ws b res₁ x) ⊎ Passes e ws b res₁ → Ends
    go (inl (x, s)) =
        let (a, z, d) = halted e sheet ws b res₁ r₁ res₁' h₁ x s in
        let (a', z', d') = halted f sheet ws b res₂ r₂ res₂' h₂ x (also x s) in
        inl (
          (a ∙ sym a', z ∙ sym z', d ∙ sym d'),
          untouched e sheet ws b res₁ r₁ res₁' h₁ x s ∙ words x s ∙ sym (untouched f sheet ws b res₂ r₂ res₂' h₂ x (also x s)),
        )
    go (inr p) = compare p (any_two _ _ (edition_of c e) (edition_of c f) (later_holds c e f l) sheet (fitting c (held ws b))).same
