-- What is promised of each call determines its answer: the result, number by number, and its count; and no two conditions of refusal hold at once.
use mathlib.Core.Path.{◌≡◌, sym, ap, ◌∙◌}
use mathlib.Core.Logic.{inl, inr}
use Prim.Native.Nat.{ℕ, ◌+◌, ◌-◌, ◌≤◌}
use native.Mathlib.Omega.{arith}
use Rattle.word.proofs.Cases.{by_lt}
use Rattle.storage.specs.Stores.{Bits, Bounded}
use Rattle.storage.specs.Promises.{OneEnd}
use Rattle.storage.proofs.Once.{same_bits, by_region}
use Rattle.storage.proofs.Promises.{once_exact}
use Rattle.gap.specs.Gaps.{opening, closing}
use Rattle.gap.specs.Promises.{Trimmed, Opens, NotOpened, Closes, CallsExact}
use Rattle.gap.proofs.Promises.{opens, closes}

-- the same set in the fewest words
fewest : (s t : Bits) → ((i : ℕ) → s.members i ≡ t.members i) → Trimmed s → Trimmed t → s.count ≡ t.count
fewest s t f a b = omega (arith, a.least t.count (λ i y. b.holds i (sym (f i) ∙ y)), b.least s.count (λ i y. a.holds i (f i ∙ y)))

pub one_opened : (p k : ℕ) (b s t : Bits) → Opens p k b s → Opens p k b t → s ≡ t
one_opened p k b s t m n = same_bits f (fewest s t f m.count n.count)
  where
    moved : (j : ℕ) → p + k ≤ j → s.members j ≡ t.members j
    moved j l = ap s.members (omega arith) ∙ m.moved (j - k) (omega arith) ∙ sym (n.moved (j - k) (omega arith)) ∙ ap t.members (omega arith)

    f : (j : ℕ) → s.members j ≡ t.members j
    f =
        by_region p k s.members t.members (λ j l. m.below j l ∙ sym (n.below j l)) (λ j l u. m.empty j l u ∙ sym (n.empty j l u)) moved

pub one-closed : (p k : ℕ) (b s t : Bits) → Closes p k b s → Closes p k b t → s ≡ t
one-closed p k b s t m n = same_bits f (fewest s t f m.count n.count)
  where
    f : (j : ℕ) → s.members j ≡ t.members j
    f j = by_lt j p (λ l. m.below j l ∙ sym (n.below j l)) (λ l. m.moved j l ∙ sym (n.moved j l))

open_once : (p k c : ℕ) (b : Bits) → Bounded b → OneEnd c (λ s. Bounded b → Opens p k b s) (λ m. Bounded b → NotOpened p k c b m)
open_once p k c b h = record {
  result = λ s t x y. one_opened p k b s t (x h) (y h);
  number = λ m n x y. number m n (x h) (y h);
  apart = λ s m x l y. apart s m (x h) l (y h);
}
  where
    number : (m n : ℕ) → NotOpened p k c b m → NotOpened p k c b n → m ≡ n
    number m n (inl x) (inl y) = x.0 ∙ sym y.0
    number m n (inl (d, i, l, u, g)) (inr (e, low, j, v, y)) = absurd (omega (arith, g, low i l u))
    number m n (inr (e, low, j, v, y)) (inl (d, i, l, u, g)) = absurd (omega (arith, g, low i l u))
    number m n (inr x) (inr y) = x.0 ∙ sym y.0

    apart : (s : Bits) (m : ℕ) → Opens p k b s → s.count ≤ c → NotOpened p k c b m → ⊥
    apart s m x l (inl (d, i, g, u, r)) = absurd (omega (arith, r, x.last i g u))
    apart s m x l (inr (d, low, i, u, inl (g, r))) = absurd (omega (arith, r, x.count.holds i (x.below i g ∙ u)))
    apart s m x l (inr (d, low, i, u, inr (g, r))) = absurd (omega (arith, r, x.count.holds (i + k) (x.moved i g ∙ u)))

pub calls_exact : CallsExact
calls_exact = record {
  open_gap = λ p k. once_exact (opening p k) _ _ (opens p k) (λ c b h l x. open_once p k c b x);
  close_gap = λ p k. once_exact (closing p k) _ _ (closes p k)
      (λ c b h l x. record {
        result = λ s t u v. one-closed p k b s t (u x) (v x);
        number = λ m n u v. absurd (u x l (omega arith));
        apart = λ s m u r v. v x l (omega arith);
      });
}
