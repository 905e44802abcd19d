-- The promises of specs/Promises.
use mathlib.Core.Path.{◌≡◌, refl, sym, ap, ◌∙◌, subst}
use mathlib.Core.Bool.{Bool, true, false, false≢true}
use mathlib.Core.List.{List, [], ◌∷◌, ◌++◌, append_assoc}
use mathlib.Core.Logic.{inl, inr, ◌↔◌}
use Prim.Native.Nat.{ℕ, zero, suc, ◌+◌, ◌-◌, ◌*◌, ◌^◌, ◌≤◌, ◌<◌}
use native.Mathlib.Nat.{pow-suc}
use native.Mathlib.Omega.{arith}
use lib.Dec.{leb}
use lib.ListN.{length, take, drop, length-append}
use lib.Seq.{take_at, drop_at, length-take-le}
use borrow.Author.Tests.{le-leb, lt-leb}
use Rattle.word.specs.Sets.{choose}
use Rattle.word.proofs.Cases.{by_lt, by_test}
use Rattle.storage.specs.Refusals.{answer_number, amount_value, change_number, change_record}
use Rattle.storage.specs.Stores.{Bits, Bounded, Outcome, done, with_count, space_of, view, held, trimmed_count, trimmed, outcome, answer, store}
use Rattle.storage.specs.Guards.{Passed}
use Rattle.storage.specs.Promises.{LeastCount}
use Rattle.storage.specs.declared.Bitmap.{Bitmap}
use Rattle.storage.specs.declared.Refusal.TheVariants.{NotList, BadStyle}
use Rattle.storage.proofs.Checks.{reading_ok}
use Rattle.storage.proofs.Views.{view-count, bounded_view}
use Rattle.storage.proofs.Stores.{view-written, outcome_ok}
use Rattle.storage.proofs.Trims.{bounded_trimmed}
use Rattle.storage.proofs.Promises.{reading_means, least_count}
use Rattle.style.specs.Styles.{allowed}
use Rattle.style.specs.Promises.{Allowed}
use Rattle.style.specs.declared.Style.{Style}
use Rattle.style.proofs.Promises.{styles_mean}
use Rattle.text.specs.Lists.{Range, range, covers}
use Rattle.text.specs.Grammar as g
use Rattle.text.specs.Readings.{reading_list}
use Rattle.print.specs.Texts.{runs, no_run, run_from, decimal, decimal_at, pieces, text, text_of, fitted, replaced, list_answer, list_buffer, Prints}
use Rattle.print.specs.Forms.{Runs, none, more, PrintedRuns, IsText}
use Rattle.print.specs.declared.Run.{Run}
use Rattle.print.specs.Promises.{PrintsShortest, IsNext, RunFromMeans, DecimalLenMeans, FiguresPut, PutDecimalMeans, PrintsRuns, PrintsOne, NotPrinted, TextPut, PutOrShort, PrintsText, WriteListMeans, RefusesStyle, TextMeans, ReadsBack}
use Rattle.print.proofs.Decimals.{decimal-digits, digits-most}
use Rattle.print.proofs.Printed.{decimal_figures, runs-printed, printed_only}
use Rattle.print.proofs.Fitting.{not-put, text-put, put-or_short, guarded_print}
use Rattle.print.proofs.Runs.{runs_are, runs_cover, run-next, run_past}
use Rattle.print.proofs.ReadBack.{prints_nothing, text_is_list, lists_members, reads_back}
use Rattle.text.proofs.Taken.{list-empty}
use Rattle.text.proofs.Promises.{covers-within, within-covers}
use Rattle.storage.specs.Refusals.{Amount, Change}
use Rattle.std.specs.Prelude.{Ok, Err}

-- ---- numbers

digits_bound : {u : List ℕ} {v : ℕ} → g.Digits u v → (0 < length u) × (v < 10 ^ length u)
digits_bound (g.one {c = c} e) = (omega arith, omega (arith, e.1))
digits_bound (g.more {t = t} {v = v} c d e) =
    let i = digits_bound d in
    let q : length (t ++ c ∷ []) ≡ suc (length t) = length-append t (c ∷ []) ∙ omega arith in
    (omega (arith, q), subst (λ (k : ℕ). 10 * v + (c - 48) < 10 ^ k) (sym q) (omega (arith, e.1, i.1, pow-suc 10 (length t))))

pub shortest : PrintsShortest
shortest n = record { means = decimal-digits n; least = λ u d. go (length u) (digits_bound d) }
  where
    go : (k : ℕ) → (0 < k) × (n < 10 ^ k) → length (decimal n) ≤ k
    go zero h = absurd (omega (arith, h.0))
    go (suc k) h = digits-most k n h.1

-- ---- a number by itself

pub decimal_len_means : DecimalLenMeans
decimal_len_means x r e = (decimal x, decimal_figures x, e)

pub put_decimal_means : PutDecimalMeans
unfolding decimal_at
put_decimal_means at x r out out' p = (d, decimal_figures x, by_lt (length out) end (λ h. inr (lacking h)) (λ h. inl (h, there h)))
  where
    d : List ℕ
    d = decimal x

    end : ℕ
    end = at + length d

    asked : (t : Bool) → leb end (length out) ≡ t → (r ≡ choose t end at) × (out' ≡ choose t (decimal_at at x out) out)
    asked t e = (p.next ∙ ap (λ (x : Bool). choose x end at) e, p.leaves ∙ ap (λ (u : Bool). choose u (decimal_at at x out) out) e)

    lacking : length out < end → (length out < end) × (r ≡ at) × (out' ≡ out)
    lacking h = let a = asked false (lt-leb end (length out) h) in (h, a.0, a.1)

    there : end ≤ length out → FiguresPut d at r out out'
    there h =
        let a = asked true (le-leb end (length out) h) in
        let n : length (take at out) ≡ at = length-take-le at out (omega arith) in
        let m : length (take at out ++ d) ≡ r = length-append (take at out) d ∙ omega (arith, n, a.0) in
        record {
          next = a.0;
          before = ap (take at) a.1 ∙ take_at (take at out) (d ++ drop end out) at n;
          there = ap (λ (y : List ℕ). take (length d) (drop at y)) a.1 ∙ ap (take (length d)) (drop_at (take at out) (d ++ drop end out) at n) ∙ take_at d (drop end out) (length d) refl;
          behind =
              ap (drop r) (a.1 ∙ sym (append_assoc (take at out) d (drop end out))) ∙ drop_at (take at out ++ d) (drop end out) r m ∙ ap (λ (k : ℕ). drop k out) (sym a.0);
        }

-- ---- runs

runs_only : (s : ℕ → Bool) (i : ℕ) (rs qs : List Range) → Runs s i rs → Runs s i qs → rs ≡ qs
runs_only s i [] [] (none f) (none h) = refl
runs_only s i [] (q ∷ qs) (none f) (more a b h m z x) = absurd (false≢true (sym (f q.low a) ∙ m q.low (omega arith) b))
runs_only s i (r ∷ rs) [] (more a b f m z x) (none h) = absurd (false≢true (sym (h r.low a) ∙ m r.low (omega arith) b))
runs_only s i (r ∷ rs) (q ∷ qs) (more a b f m z x) (more a' b' f' m' z' x') =
    (λ k. range (low k) (high k) ∷ runs_only s (r.high + 1) rs qs x (subst (λ (n : ℕ). Runs s n qs) (omega (arith, high)) x') k)
  where
    low : r.low ≡ q.low
    low =
        by_lt r.low q.low
        (λ h. absurd (false≢true (sym (f' r.low a h) ∙ m r.low (omega arith) b)))
        (λ h. by_lt q.low r.low (λ l. absurd (false≢true (sym (f q.low a' l) ∙ m' q.low (omega arith) b'))) (λ l. omega arith))

    high : r.high ≡ q.high
    high =
        by_lt r.high q.high
        (λ h. absurd (false≢true (sym z ∙ m' (r.high + 1) (omega (arith, low)) (omega arith))))
        (λ h. by_lt q.high r.high (λ l. absurd (false≢true (sym z' ∙ m (q.high + 1) (omega (arith, low)) (omega arith)))) (λ l. omega arith))

pub prints_runs : PrintsRuns
prints_runs b h = record {
  maximal = runs_are b h;
  cover = λ i.
      let e : covers (runs b) i ≡ b.members i = runs_cover b.members 0 (runs b) (runs_are b h) i (omega arith) in
      (λ w. sym e ∙ within-covers (runs b) i w, λ m. covers-within (runs b) i (e ∙ m));
  only = λ rs x. runs_only b.members 0 rs (runs b) x (runs_are b h);
}

pub run_from_means : RunFromMeans
run_from_means ws b i r e =
    reading_means (λ e. no_run) (λ s. run_from s i) (λ r k. (r.low ≡ 0) × (r.end ≡ 0)) (λ b r. IsNext b i r.low r.end) (λ e. (refl, refl)) is_next ws b r e
  where
    -- the next run by its bounds
    is_next : (b : Bits) → Bounded b → IsNext b i (run_from b i).low (run_from b i).end
    is_next b h = by_lt (64 * b.count) i (λ l. past l) (λ l. within l)
      where
        past : 64 * b.count < i → IsNext b i (run_from b i).low (run_from b i).end
        past l =
            subst (λ (r : Run). IsNext b i r.low r.end) (sym (run_past b i (omega arith)))
            (record { order = omega arith; some = λ q. absurd (omega arith); none = λ q. (refl, λ j k. h.past j (omega arith)) })

        within : i ≤ 64 * b.count → IsNext b i (run_from b i).low (run_from b i).end
        within l =
            let n = run-next b h i l in
            record {
              order = n.order;
              some = λ q. (n.from, n.before, n.all, n.stops q);
              none = λ q. (n.none q, λ j k. by_lt j (run_from b i).low (λ u. n.before j k u) (λ u. h.past j (omega (arith, q, n.none q))));
            }

-- ---- the text of a bitmap

pub prints_one : PrintsOne
prints_one y ok b h t =
    let has = runs_are b h in (
      λ x. printed_only y ok x.2 ∙ ap (λ (rs : List Range). text y (pieces y.shortest rs)) (runs_only b.members 0 x.0 (runs b) x.1 has),
      λ e. (runs b, has, subst (λ (u : List ℕ). PrintedRuns y u (runs b)) (sym e) (runs-printed y ok b.members 0 (runs b) has)),
    )

pub text_of_lem : TextMeans
text_of_lem y ok b h small = record {
  empty = prints_nothing y ok b h small;
  refused = λ c old. (NotList, list-empty y c old ((styles_mean y).0 ok), refl);
  some = λ i e.
      let ps : List Range = pieces y.shortest (runs b) in
      let m : (j : ℕ) → covers ps j ≡ b.members j = lists_members y ok b h small i e in
      (ps, text_is_list y ok b h small i e, λ j. (λ w. sym (m j) ∙ within-covers ps j w, λ q. covers-within ps j (m j ∙ q)));
}

-- ---- the call that prints

module _ (y : Style) (ws : List ℕ) (b : Bitmap) (out : List ℕ) (r : Amount) (out' : List ℕ) (p : Prints y ws b out r out') where
  abbrev t : List ℕ
  t = text_of y (held ws b)

  module _ (q : Passed ws b) where
    -- where the store passes: a style that is not allowed
    no_style : (Allowed y → ⊥) → NotPrinted out (answer_number r) (amount_value r) out' 15
    no_style f = by_test (allowed y) (λ a. absurd (f ((styles_mean y).1 a))) said
      where
        said : allowed y ≡ false → NotPrinted out (answer_number r) (amount_value r) out' 15
        said a =
            let e : r ≡ Err BadStyle = p.answers ∙ reading_ok ws b Err (list_answer y out) q
            ∙ ap (λ (x : Bool). choose x (fitted t out) (Err BadStyle)) a in
            record {
              hands = (ap answer_number e, ap amount_value e);
              bytes = p.leaves ∙ reading_ok ws b (λ e. out) (list_buffer y out) q ∙ ap (λ (x : Bool). choose x (replaced t out) out) a;
            }

    -- else whether the text fits is all there is to ask
    module _ (ok : Allowed y) where
      answer_is : r ≡ fitted t out
      answer_is =
          p.answers ∙ reading_ok ws b Err (list_answer y out) q ∙ ap (λ (x : Bool). choose x (fitted t out) (Err BadStyle)) ((styles_mean y).0 ok)

      buffer_is : out' ≡ replaced t out
      buffer_is = p.leaves ∙ reading_ok ws b (λ e. out) (list_buffer y out) q ∙ ap (λ (x : Bool). choose x (replaced t out) out) ((styles_mean y).0 ok)

      printed : PutOrShort (IsText y (held ws b).members) out (answer_number r) (amount_value r) out'
      printed = put-or_short t out r out' answer_is buffer_is (IsText y (held ws b).members) ((prints_one y ok (held ws b) (bounded_view ws b.count) t).1 refl)

      lacking : length out < length t → NotPrinted out (answer_number r) (amount_value r) out' 6
      lacking = not-put t out r out' answer_is buffer_is

      list_put : length t ≤ length out → TextPut t out (answer_number r) (amount_value r) out'
      list_put = text-put t out r out' answer_is buffer_is

      text-fits : answer_number r ≡ 0 → length t ≤ length out
      text-fits z = by_lt (length out) (length t) (λ l. absurd (omega (arith, (lacking l).hands.0))) (λ l. l)

      not_15 : answer_number r ≡ 15 → ⊥
      not_15 z = by_lt (length out) (length t) (λ l. omega (arith, z, (lacking l).hands.0)) (λ l. omega (arith, z, (list_put l).number))

    -- a text that was printed has an allowed style
    was_allowed : answer_number r ≡ 0 → Allowed y
    was_allowed z = by_test (allowed y) (λ a. (styles_mean y).1 a) (λ a. absurd (omega (arith, z, (no_style (λ ok. false≢true (sym a ∙ (styles_mean y).0 ok))).hands.0)))

    only_15 : (Allowed y → ⊥) ↔ (answer_number r ≡ 15)
    only_15 = (λ f. (no_style f).hands.0, λ z ok. not_15 ok z)

  call_means : PrintsText y ws b out (answer_number r) (amount_value r) out'
  call_means = guarded_print ws b out (list_answer y out) (list_buffer y out) r out' p.answers p.leaves (λ q a l. record { stop = no_style q; rest = printed q })

pub prints_text : WriteListMeans
prints_text y ws b out r out' p = call_means y ws b out r out' p

pub refuses_style : RefusesStyle
refuses_style y ws b out r out' q p = only_15 y ws b out r out' p q

-- ---- one call after the other

pub there_and_back : ReadsBack
unfolding answer store
there_and_back y ws b i out out' a q e p z us us' o r m u fewest space c =
    let n = b.count in
    let ok : Allowed y = was_allowed y ws b out a out' p q z in
    let put = list_put y ws b out a out' p q ok (text-fits y ws b out a out' p q ok z) in
    let made : outcome (reading_list y (take (amount_value a) out')) us o ≡ done (trimmed (held ws b)) =
    outcome_ok (reading_list y (take (amount_value a) out')) us o u
    ∙ ap (λ (t : List ℕ). reading_list y t (space_of us) (held us o)) put.front
    ∙ reads_back y ok (held ws b) (bounded_view ws n) (omega (arith, q, view-count ws n)) i e (space_of us) (held us o) (omega (arith, count)) in
    let answered : r ≡ Ok (with_count o (trimmed (held ws b)).count) = c.answers ∙ ap (λ (x : Outcome). answer x o) made in (
      ap change_number answered,
      ap (λ (x : Change). (change_record x).count) answered ∙ count,
      λ j.
          ap (λ (k : ℕ). (view us' k).members j) (sym count)
          ∙ ap (λ (y : List ℕ). (view y (trimmed (held ws b)).count).members j) (c.leaves ∙ ap (λ (x : Outcome). store x us o.count) made)
          ∙ ap (λ (s : Bits). s.members j)
          (view-written us o.count (trimmed (held ws b)) (omega (arith, count)) u.inside (bounded_trimmed (held ws b) (bounded_view ws n))),
    )
  where
    its : LeastCount (held ws b).members b.count (trimmed_count (held ws b).members b.count)
    its = least_count (held ws b).members b.count

    count : trimmed_count (held ws b).members (held ws b).count ≡ m
    count =
        ap (trimmed_count (held ws b).members) (view-count ws b.count)
        ∙ omega (arith, its.least m fewest.holds, fewest.least (trimmed_count (held ws b).members b.count) its.holds)
