-- Counts of members, the least, the greatest, and the member of a rank: what the definitions answer.
use Rattle.std.proofs.Common.{◌≡◌, ℕ, zero, suc, ◌+◌, ◌-◌, ◌<◌, ◌≤◌, Bool, true, false, ◌&&◌, eqb, sym, refl, ap, ◌∙◌, ap₂, not-suc-le-zero, add-zero, add-suc, arith, eq-eqb, ne_eqb, eqb-true}
use borrow.Author.Tests.{eqb-false}
use lib.Arith.{lt_of_le-ne}
use Rattle.word.specs.Sets.{choose, val, count_below, least_from, top_below, nth, Least, Top, Counts, Counted}
use Rattle.word.proofs.Cases.{by_lt, by_eq, by_test, and-false}

-- ---- how many members are below a number

pub val-le : (t : Bool) → val t ≤ 1
val-le true = omega arith
val-le false = omega arith

pub count-le : (s : ℕ → Bool) (m : ℕ) → count_below s m ≤ m
unfolding count_below
count-le s zero = omega arith
count-le s (suc m) = omega (arith, val-le (s m), count-le s m)

pub count_ext : (s t : ℕ → Bool) (m : ℕ) → ((i : ℕ) → i < m → s i ≡ t i) → count_below s m ≡ count_below t m
unfolding count_below
count_ext s t zero h = refl
count_ext s t (suc m) h = ap₂ (λ (b : Bool) (x : ℕ). val b + x) (h m (omega arith)) (count_ext s t m (λ i l. h i (omega arith)))

pub count_add : (s : ℕ → Bool) (a m : ℕ) → count_below s (a + m) ≡ count_below s a + count_below (λ j. s (a + j)) m
unfolding count_below
count_add s a zero = ap (count_below s) (add-zero a) ∙ sym (add-zero (count_below s a))
count_add s a (suc m) =
    let e : count_below s (a + suc m) ≡ val (s (a + m)) + count_below s (a + m) = ap (count_below s) (add-suc a m) in
    omega (arith, count_add s a m)

-- the lowest first
pub count-front : (s : ℕ → Bool) (m : ℕ) → count_below s (suc m) ≡ val (s 0) + count_below (λ j. s (suc j)) m
unfolding count_below
count-front s zero = refl
count-front s (suc m) = omega (arith, count-front s m)

pub count_none : (s : ℕ → Bool) (m : ℕ) → ((i : ℕ) → i < m → s i ≡ false) → count_below s m ≡ 0
unfolding count_below
count_none s zero h = refl
count_none s (suc m) h = ap₂ (λ (b : Bool) (x : ℕ). val b + x) (h m (omega arith)) (count_none s m (λ i l. h i (omega arith)))

pub count_ones : (s : ℕ → Bool) (m : ℕ) → ((i : ℕ) → i < m → s i ≡ true) → count_below s m ≡ m
unfolding count_below
count_ones s zero h = refl
count_ones s (suc m) h = ap₂ (λ (b : Bool) (x : ℕ). val b + x) (h m (omega arith)) (count_ones s m (λ i l. h i (omega arith))) ∙ omega arith

-- a set with no member from a on has no more below e
pub count_flat : (s : ℕ → Bool) (a e : ℕ) → a ≤ e → ((i : ℕ) → a ≤ i → s i ≡ false) → count_below s e ≡ count_below s a
count_flat s a e h z =
    ap (count_below s) (omega arith) ∙ count_add s a (e - a)
    ∙ omega (arith, count_none (λ j. s (a + j)) (e - a) (λ j l. z (a + j) (omega arith)))

-- a number past a member has more below it
pub count-more : (s : ℕ → Bool) (p m : ℕ) → p < m → s p ≡ true → count_below s p < count_below s m
unfolding count_below
count-more s p zero l e = absurd (not-suc-le-zero l)
count-more s p (suc m) l e =
    by_eq p m
    (λ q. omega (arith, ap val (sym (ap s q) ∙ e), ap (count_below s) q))
    (λ n. omega (arith, count-more s p m (omega arith) e))

-- none counted, none there
pub count-empty : (s : ℕ → Bool) (m i : ℕ) → count_below s m ≡ 0 → i < m → s i ≡ false
count-empty s m i e l = by_test (s i) (λ t. absurd (omega (arith, count-more s i m l t))) (λ t. t)

-- it counts the members
pub counts : (s : ℕ → Bool) → Counts s (count_below s)
unfolding count_below
counts s = record {
  none = refl;
  member = λ m e. ap (λ (b : Bool). val b + count_below s m) e ∙ omega arith;
  other = λ m e. ap (λ (b : Bool). val b + count_below s m) e ∙ omega arith;
}

-- and nothing else does
pub counts_is : (s : ℕ → Bool) (f : ℕ → ℕ) → Counts s f → (m : ℕ) → f m ≡ count_below s m
unfolding count_below
counts_is s f c zero = c.none
counts_is s f c (suc m) =
    by_test (s m)
    (λ e. c.member m e ∙ ap suc (counts_is s f c m) ∙ sym ((counts s).member m e))
    (λ e. c.other m e ∙ counts_is s f c m ∙ sym ((counts s).other m e))

pub counted : (s : ℕ → Bool) (k v : ℕ) → count_below s k ≡ v → Counted s k v
counted s k v e = record { some = (count_below s, counts s, e); all = λ count c. counts_is s count c k ∙ e }

-- ---- the least from a place on

least_more : (s : ℕ → Bool) (i d : ℕ) (t : Bool) → s i ≡ t → least_from s i (suc d) ≡ choose t i (least_from s (suc i) d)
unfolding least_from
least_more s i d t e = ap (λ (x : Bool). choose x i (least_from s (suc i) d)) e

pub least_is : (s : ℕ → Bool) (i d p : ℕ) → Least s i (i + d) p → least_from s i d ≡ p
unfolding least_from
least_is s i zero p r = omega (arith, r.from, r.within)
least_is s i (suc d) p r =
    by_eq i p
    (λ e. least_more s i d true (ap s e ∙ r.here (omega arith)) ∙ e)
    (λ e.
    least_more s i d false (r.under i (omega arith) (omega (arith, r.from)))
    ∙ least_is s (suc i) d p
    (record {
      from = omega (arith, r.from);
      within = omega (arith, r.within);
      here = λ l. r.here (omega arith);
      under = λ q a b. r.under q (omega arith) b;
    }))

least_go : (s : ℕ → Bool) (i d p : ℕ) (t : Bool) → s i ≡ t → Least s (suc i) (suc i + d) p → Least s i (i + suc d) (choose t i p)
least_go s i d p true e r =
    record { from = omega arith; within = omega arith; here = λ l. e; under = λ q a b. absurd (omega arith) }
least_go s i d p false e r = record {
  from = omega (arith, r.from);
  within = omega (arith, r.within);
  here = λ l. r.here (omega arith);
  under = λ q a b. by_eq q i (λ x. ap s x ∙ e) (λ x. r.under q (omega arith) b);
}

pub least : (s : ℕ → Bool) (i d : ℕ) → Least s i (i + d) (least_from s i d)
unfolding least_from
least s i zero =
    record { from = omega arith; within = omega arith; here = λ l. absurd (omega arith); under = λ q a b. absurd (omega arith) }
least s i (suc d) = least_go s i d (least_from s (suc i) d) (s i) refl (least s (suc i) d)

pub least_ext : (s t : ℕ → Bool) (i d : ℕ) → ((q : ℕ) → i ≤ q → q < i + d → s q ≡ t q) → least_from s i d ≡ least_from t i d
least_ext s t i d h =
    let r : Least t i (i + d) (least_from t i d) = least t i d in
    least_is s i d (least_from t i d)
    (record {
      from = r.from;
      within = r.within;
      here = λ l. h (least_from t i d) r.from l ∙ r.here l;
      under = λ q a b. h q a (omega (arith, r.within)) ∙ r.under q a b;
    })

-- one place up
pub least_suc : (s : ℕ → Bool) (i d : ℕ) → least_from s (suc i) d ≡ suc (least_from (λ j. s (suc j)) i d)
unfolding least_from
least_suc s i zero = refl
least_suc s i (suc d) = go (s (suc i)) (least_suc s (suc i) d)
  where
    go : (t : Bool) → least_from s (suc (suc i)) d ≡ suc (least_from (λ j. s (suc j)) (suc i) d)
        → choose t (suc i) (least_from s (suc (suc i)) d) ≡ suc (choose t i (least_from (λ j. s (suc j)) (suc i) d))
    go true e = refl
    go false e = e

-- ---- one more than the greatest

top_more : (s : ℕ → Bool) (m : ℕ) (t : Bool) → s m ≡ t → top_below s (suc m) ≡ choose t (suc m) (top_below s m)
unfolding top_below
top_more s m t e = ap (λ (x : Bool). choose x (suc m) (top_below s m)) e

pub top_is : (s : ℕ → Bool) (m t : ℕ) → Top s m t → top_below s m ≡ t
unfolding top_below
top_is s zero t r = omega (arith, r.within)
top_is s (suc m) t r =
    by_eq t (suc m)
    (λ e. top_more s m true (r.last m (sym e)) ∙ sym e)
    (λ e.
    top_more s m false (r.over m (omega (arith, r.within)) (omega arith))
    ∙ top_is s m t (record { within = omega (arith, r.within); last = r.last; over = λ k a b. r.over k a (omega arith) }))

top_go : (s : ℕ → Bool) (m p : ℕ) (t : Bool) → s m ≡ t → Top s m p → Top s (suc m) (choose t (suc m) p)
top_go s m p true e r =
    record { within = omega arith; last = λ k q. ap s (omega arith) ∙ e; over = λ k a b. absurd (omega arith) }
top_go s m p false e r = record {
  within = omega (arith, r.within);
  last = r.last;
  over = λ k a b. by_eq k m (λ x. ap s x ∙ e) (λ x. r.over k a (omega arith));
}

pub top : (s : ℕ → Bool) (m : ℕ) → Top s m (top_below s m)
unfolding top_below
top s zero = record { within = omega arith; last = λ k q. absurd (omega arith); over = λ k a b. absurd (omega arith) }
top s (suc m) = top_go s m (top_below s m) (s m) refl (top s m)

-- ---- the member of a rank

-- p is the member below m with exactly r members below it
pub record Nth (s : ℕ → Bool) (r m p : ℕ) : Type 0 where
  pub within : p < m
  pub here : s p ≡ true
  pub under : count_below s p ≡ r

pub nth_is : (s : ℕ → Bool) (r none m p : ℕ) → Nth s r m p → nth s r none m ≡ p
unfolding nth
nth_is s r none zero p n = absurd (omega (arith, n.within))
nth_is s r none (suc m) p n =
    by_eq p m
    (λ q.
    ap₂ (λ (a b : Bool). choose (a && b) m (nth s r none m))
    (sym (ap s q) ∙ n.here) (eq-eqb (count_below s m) r (sym (ap (count_below s) q) ∙ n.under))
    ∙ sym q)
    (λ q.
    let l : p < m = omega (arith, n.within) in
    ap (λ (b : Bool). choose (s m && b) m (nth s r none m))
    (ne_eqb (count_below s m) r (λ e. omega (arith, count-more s p m l n.here, n.under)))
    ∙ ap (λ (b : Bool). choose b m (nth s r none m)) (and-false (s m))
    ∙ nth_is s r none m p (record { within = l; here = n.here; under = n.under }))

-- none only where there are at most r members
pub nth_none : (s : ℕ → Bool) (r none m : ℕ) → count_below s m ≤ r → nth s r none m ≡ none
unfolding nth count_below
nth_none s r none zero h = refl
nth_none s r none (suc m) h = go (s m) refl (nth_none s r none m (omega arith))
  where
    go : (a : Bool) → s m ≡ a → nth s r none m ≡ none → choose (a && eqb (count_below s m) r) m (nth s r none m) ≡ none
    go false e ih = ih
    go true e ih =
        let v : val (s m) ≡ 1 = ap val e in
        ap (λ (b : Bool). choose b m (nth s r none m)) (ne_eqb (count_below s m) r (λ q. omega arith)) ∙ ih

-- where there are more, it is one of them
pub nth_has : (s : ℕ → Bool) (r none m : ℕ) → r < count_below s m → Nth s r m (nth s r none m)
unfolding nth count_below
nth_has s r none zero h = absurd (not-suc-le-zero h)
nth_has s r none (suc m) h = go (s m) refl (eqb (count_below s m) r) refl (λ l. nth_has s r none m l)
  where
    further : Nth s r m (nth s r none m) → Nth s r (suc m) (nth s r none m)
    further n = record { within = omega (arith, n.within); here = n.here; under = n.under }

    go : (a : Bool) → s m ≡ a → (b : Bool) → eqb (count_below s m) r ≡ b → (r < count_below s m → Nth s r m (nth s r none m))
        → Nth s r (suc m) (choose (a && b) m (nth s r none m))
    go true e true q ih = record { within = omega arith; here = e; under = eqb-true (count_below s m) r q }
    go true e false q ih =
        let v : val (s m) ≡ 1 = ap val e in
        further (ih (lt_of_le-ne (omega arith) (λ z. eqb-false (count_below s m) r q (sym z))))
    go false e b q ih = let v : val (s m) ≡ 0 = ap val e in further (ih (omega arith))

pub nth-le : (s : ℕ → Bool) (r m : ℕ) → nth s r m m ≤ m
nth-le s r m =
    by_lt r (count_below s m)
    (λ h. omega (arith, (nth_has s r m m h).within))
    (λ h. omega (arith, nth_none s r m m h))
