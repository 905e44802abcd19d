-- What is promised of each call determines its answer: the result, number by number, and its count; and no two conditions of refusal hold at once.
use mathlib.Core.Path.{◌≡◌, sym, ap, ◌∙◌}
use mathlib.Core.Bool.{false, false≢true}
use mathlib.Core.Logic.{◌⊎◌, inl, inr}
use Prim.Native.Nat.{ℕ, ◌+◌, ◌-◌, ◌*◌, ◌/◌, ◌^◌, ◌≤◌, ◌<◌, max}
use native.Mathlib.Omega.{arith}
use Rattle.word.specs.Sets.{top_below, Top}
use Rattle.word.proofs.Cases.{by_lt, by_eq}
use Rattle.word.proofs.Sets.{top}
use Rattle.storage.specs.Stores.{Bits, Bounded}
use Rattle.storage.specs.Promises.{OneEnd}
use Rattle.storage.proofs.Once.{same_bits, same_set, by_region, fewest_of, once_never, once_lacks}
use Rattle.storage.proofs.Promises.{once_exact}
use Rattle.shapes.specs.Shapes.{toggling, toggling_region, raising, lowering, truncating, resizing, appending}
use Rattle.shapes.specs.Promises.{FlippedFrom, NotFlipped, IsTop, RaisedBy, TopPasses, LoweredBy, TruncatedTo, ResizedTo, JoinedWith, CallsExact}
use Rattle.shapes.proofs.Promises.{toggles, toggles_region, raises, lowers, truncates, resizes, joins}

module _ (b s t : Bits) where
  pub one-flipped : (i k : ℕ) → (k ≡ 0 → ⊥) → FlippedFrom i k b s → FlippedFrom i k b t → s ≡ t
  one-flipped i k some p q =
      same_bits
      (by_region i k s.members t.members (λ j l. p.before j l ∙ sym (q.before j l)) (λ j l m. p.inside j l m ∙ sym (q.inside j l m))
      (λ j l. p.after j l ∙ sym (q.after j l)))
      (p.count (i + k - 1) (omega arith) ∙ sym (q.count (i + k - 1) (omega arith)))

  -- the greatest member gives the count; with none there is only b
  pub one_raised : (k : ℕ) → Bounded b → RaisedBy k b s → RaisedBy k b t → s ≡ t
  one_raised k h p q =
      by_eq u 0
      (λ z. let none : (i : ℕ) → b.members i ≡ false = λ i. over i (omega arith) in p.nothing none ∙ sym (q.nothing none))
      (λ z.
      let greatest : IsTop b (u - 1) = record { here = r.last (u - 1) (omega arith); over = λ i l. over i (omega arith) } in
      same_bits
      (same_set s.members t.members
      (λ m y. let (i, x, e) = p.comes m y in ap t.members (sym e) ∙ q.goes i x)
      (λ m y. let (i, x, e) = q.comes m y in ap s.members (sym e) ∙ p.goes i x))
      ((p.count (u - 1) greatest).1 ∙ sym (q.count (u - 1) greatest).1))
    where
      u : ℕ
      u = top_below b.members (64 * b.count)

      r : Top b.members (64 * b.count) u
      r = top b.members (64 * b.count)

      over : (i : ℕ) → u ≤ i → b.members i ≡ false
      over i l = by_lt i (64 * b.count) (λ m. r.over i l m) (λ m. h.past i m)

  pub one-lowered : (k : ℕ) → LoweredBy k b s → LoweredBy k b t → s ≡ t
  one-lowered k p q = same_bits f (fewest_of b.count s.members t.members s.count t.count f p.count q.count)
    where
      f : (m : ℕ) → s.members m ≡ t.members m
      f =
          same_set s.members t.members
          (λ m y. let (i, x, l, e) = p.comes m y in ap t.members (sym e) ∙ q.goes i x l)
          (λ m y. let (i, x, l, e) = q.comes m y in ap s.members (sym e) ∙ p.goes i x l)

  one-truncated : (k : ℕ) → TruncatedTo k b s → TruncatedTo k b t → s ≡ t
  one-truncated k p q = same_bits f (fewest_of b.count s.members t.members s.count t.count f p.count q.count)
    where
      f : (i : ℕ) → s.members i ≡ t.members i
      f i = by_lt i k (λ l. p.cut.below i l ∙ sym (q.cut.below i l)) (λ l. p.cut.from i l ∙ sym (q.cut.from i l))

  pub one_resized : (k : ℕ) → ResizedTo k b s → ResizedTo k b t → s ≡ t
  one_resized k p q =
      same_bits
      (λ i. by_lt i k (λ l. p.cut.below i l ∙ sym (q.cut.below i l)) (λ l. p.cut.from i l ∙ sym (q.cut.from i l)))
      (omega (arith, p.least t.count q.holds, q.least s.count p.holds))

  one-joined : (o : Bits) → JoinedWith o b s → JoinedWith o b t → s ≡ t
  one-joined o p q =
      same_bits
      (λ i. by_lt i (64 * b.count)
      (λ l. p.first i l ∙ sym (q.first i l))
      (λ l.
      let j : ℕ = i - 64 * b.count in
      ap s.members (omega arith) ∙ p.second j ∙ sym (q.second j) ∙ ap t.members (omega arith)))
      (p.count ∙ sym q.count)

region_once : (i k c : ℕ) (b : Bits) → (k ≡ 0 → ⊥) → OneEnd c (λ s. (i + k ≤ 2 ^ 64) × FlippedFrom i k b s) (NotFlipped i k c b)
region_once i k c b some = record { result = λ s t p q. one-flipped b s t i k some p.1 q.1; number = number; apart = apart }
  where
    number : (m n : ℕ) → NotFlipped i k c b m → NotFlipped i k c b n → m ≡ n
    number m n (inl p) (inl q) = p.0 ∙ sym q.0
    number m n (inl p) (inr q) = absurd (omega (arith, p.1, q.1))
    number m n (inr p) (inl q) = absurd (omega (arith, p.1, q.1))
    number m n (inr p) (inr q) = p.0 ∙ sym q.0

    apart : (s : Bits) (m : ℕ) → (i + k ≤ 2 ^ 64) × FlippedFrom i k b s → s.count ≤ c → NotFlipped i k c b m → ⊥
    apart s m p l (inl q) = absurd (omega (arith, p.0, q.1))
    apart s m p l (inr q) = absurd (omega (arith, q.2, p.1.count (i + k - 1) (omega arith)))

-- a bitmap has one greatest member
one_top : (b : Bits) (t u : ℕ) → IsTop b t → IsTop b u → t ≡ u
one_top b t u p q =
    by_lt t u
    (λ l. absurd (false≢true (sym (p.over u l) ∙ q.here)))
    (λ l. by_lt u t (λ m. absurd (false≢true (sym (q.over t m) ∙ p.here))) (λ m. omega arith))

raise_once : (k c : ℕ) (b : Bits) → Bounded b → OneEnd c (λ s. Bounded b → RaisedBy k b s) (λ m. Bounded b → TopPasses k c b m)
raise_once k c b h = record {
  result = λ s t p q. one_raised b s t k h (p h) (q h);
  number = λ m n p q. number m n (p h) (q h);
  apart = λ s m p l q. apart s m (p h) l (q h);
}
  where
    number : (m n : ℕ) → TopPasses k c b m → TopPasses k c b n → m ≡ n
    number m n (t, p, x) (u, q, y) = go x y
      where
        same : t ≡ u
        same = one_top b t u p q

        go : ((m ≡ 4) × (2 ^ 64 ≤ t + k)) ⊎ ((m ≡ 6) × (t + k < 2 ^ 64) × (c < max b.count ((t + k) / 64 + 1)))
            → ((n ≡ 4) × (2 ^ 64 ≤ u + k)) ⊎ ((n ≡ 6) × (u + k < 2 ^ 64) × (c < max b.count ((u + k) / 64 + 1))) → m ≡ n
        go (inl x) (inl y) = x.0 ∙ sym y.0
        go (inl x) (inr y) = absurd (omega (arith, same, x.1, y.1))
        go (inr x) (inl y) = absurd (omega (arith, same, x.1, y.1))
        go (inr x) (inr y) = x.0 ∙ sym y.0

    apart : (s : Bits) (m : ℕ) → RaisedBy k b s → s.count ≤ c → TopPasses k c b m → ⊥
    apart s m p l (t, q, inl x) = absurd (omega (arith, x.1, (p.count t q).0))
    apart s m p l (t, q, inr x) = absurd (omega (arith, x.2, (p.count t q).1))

pub calls_exact : CallsExact
calls_exact = record {
  toggle = λ i. once_exact (toggling i) _ _ (toggles i)
      (λ c b h l k. once_lacks c b (FlippedFrom i 1 b) (λ b. max b.count (i / 64 + 1)) (λ s t. one-flipped b s t i 1 (λ z. absurd (omega arith)))
      (λ s p. p.count i (omega arith)));
  toggle_region = λ i k some. once_exact (toggling_region i k) _ _ (toggles_region i k some) (λ c b h l x. region_once i k c b some);
  shift_left = λ k. once_exact (raising k) _ _ (raises k) (λ c b h l x. raise_once k c b x);
  shift_right = λ k. once_exact (lowering k) _ _ (lowers k) (λ c b h l x. once_never c b (LoweredBy k b) (λ s t. one-lowered b s t k));
  truncate = λ k. once_exact (truncating k) _ _ (truncates k) (λ c b h l x. once_never c b (TruncatedTo k b) (λ s t. one-truncated b s t k));
  resize = λ k. once_exact (resizing k) _ _ (resizes k)
      (λ c b h l x. once_lacks c b (ResizedTo k b) (λ b. (k + 63) / 64) (λ s t. one_resized b s t k)
      (λ s p. omega (arith, p.holds, p.least ((k + 63) / 64) (omega arith))));
  append = λ o g. once_exact (appending o) _ _ (joins o g)
      (λ c b h l x. once_lacks c b (λ s. Bounded b → JoinedWith o b s) (λ b. b.count + o.count) (λ s t p q. one-joined b s t o (p x) (q x)) (λ s p. (p x).count));
}
