-- What is promised of `from_list` determines its answer: the result, number by number, and its count; and no two conditions of refusal hold at once.
use mathlib.Core.Path.{◌≡◌, sym, ◌∙◌, subst}
use mathlib.Core.List.{List}
use mathlib.Core.Logic.{inl, inr}
use Prim.Native.Nat.{ℕ, ◌≤◌}
use native.Mathlib.Omega.{arith}
use Rattle.storage.specs.Stores.{Bits}
use Rattle.storage.specs.Promises.{OneEnd}
use Rattle.storage.proofs.Once.{same_bits, same_set}
use Rattle.storage.proofs.Promises.{once_exact}
use Rattle.style.specs.Promises.{Allowed}
use Rattle.style.specs.declared.Style.{Style}
use Rattle.text.specs.Lists.{Range}
use Rattle.text.specs.Grammar.{Listed}
use Rattle.text.specs.Readings.{ranges, reading_list}
use Rattle.text.specs.Promises.{Within, Union, ReadAs, TextRefused, ListRead, ListRefused, ReadsListExact}
use Rattle.text.proofs.Grammar.{slip_not_huge, bad_not_listed}
use Rattle.text.proofs.Promises.{reads_grammar, reads-list}

-- a text lists one list of ranges in a style
one_list : (y : Style) → Allowed y → (t : List ℕ) (p q : List Range) → Listed y t p → Listed y t q → p ≡ q
one_list y ok t p q x z = same (sym ((reads_grammar.accepted y ok t p).0 x) ∙ (reads_grammar.accepted y ok t q).0 z)
  where
    same : ranges p ≡ ranges q → p ≡ q
    same e = cc

one-union : (rs : List Range) (s t : Bits) → Union rs s → Union rs t → s ≡ t
one-union rs s t p q =
    same_bits
    (same_set s.members t.members (λ i y. (q.members i).0 ((p.members i).1 y)) (λ i y. (p.members i).0 ((q.members i).1 y)))
    (omega (arith, p.least t.count q.holds, q.least s.count p.holds))

-- in an allowed style
module _ (y : Style) (ok : Allowed y) (t : List ℕ) (c : ℕ) where
  result : (b s u : Bits) → ReadAs (Listed y) t c b s → ReadAs (Listed y) t c b u → s ≡ u
  result b s u (h, (p, x, v)) (g, (q, z, w)) = one-union p s u v (subst (λ (rs : List Range). Union rs u) (one_list y ok t q p z x) w)

  number : (k l : ℕ) → TextRefused y t c k → TextRefused y t c l → k ≡ l
  number k l (inl p) (inl q) = p.0 ∙ sym q.0
  number k l (inl p) (inr q) = absurd (q.0 p.1)
  number k l (inr p) (inl q) = absurd (p.0 q.1)
  number k l (inr (h, inl p)) (inr (g, inl q)) = p.0 ∙ sym q.0
  number k l (inr (h, inl p)) (inr (g, inr (inl q))) = absurd (slip_not_huge y ok p.1 q.1)
  number k l (inr (h, inl p)) (inr (g, inr (inr (e, (rs, x, z))))) = absurd (bad_not_listed y ok (inl p.1) rs x)
  number k l (inr (h, inr (inl p))) (inr (g, inl q)) = absurd (slip_not_huge y ok q.1 p.1)
  number k l (inr (h, inr (inl p))) (inr (g, inr (inl q))) = p.0 ∙ sym q.0
  number k l (inr (h, inr (inl p))) (inr (g, inr (inr (e, (rs, x, z))))) = absurd (bad_not_listed y ok (inr p.1) rs x)
  number k l (inr (h, inr (inr (e, (rs, x, z))))) (inr (g, inl q)) = absurd (bad_not_listed y ok (inl q.1) rs x)
  number k l (inr (h, inr (inr (e, (rs, x, z))))) (inr (g, inr (inl q))) = absurd (bad_not_listed y ok (inr q.1) rs x)
  number k l (inr (h, inr (inr p))) (inr (g, inr (inr q))) = p.0 ∙ sym q.0

  apart : (b s : Bits) (k : ℕ) → ReadAs (Listed y) t c b s → s.count ≤ c → TextRefused y t c k → ⊥
  apart b s k (h, (p, x, v)) l (inl q) = h q.1
  apart b s k (h, (p, x, v)) l (inr (g, inl q)) = bad_not_listed y ok (inl q.1) p x
  apart b s k (h, (p, x, v)) l (inr (g, inr (inl q))) = bad_not_listed y ok (inr q.1) p x
  apart b s k (h, (p, x, v)) l (inr (g, inr (inr (e, (rs, z, (i, w, m)))))) =
      absurd (omega (arith, m, v.holds i (subst (λ (rs : List Range). Within rs i) (one_list y ok t rs p z x) w)))

list_once : (y : Style) (t : List ℕ) (c : ℕ) (b : Bits) → OneEnd c (ListRead y t c b) (ListRefused y t c b)
list_once y t c b = record { result = λ s u p q. result y p.0 t c b s u p.1 q.1; number = both; apart = neither }
  where
    both : (k l : ℕ) → ListRefused y t c b k → ListRefused y t c b l → k ≡ l
    both k l (inl p) (inl q) = p.0 ∙ sym q.0
    both k l (inl p) (inr q) = absurd (p.1 q.0)
    both k l (inr p) (inl q) = absurd (q.1 p.0)
    both k l (inr p) (inr q) = number y p.0 t c k l p.1 q.1

    neither : (s : Bits) (k : ℕ) → ListRead y t c b s → s.count ≤ c → ListRefused y t c b k → ⊥
    neither s k p l (inl q) = q.1 p.0
    neither s k p l (inr q) = apart y p.0 t c b s k p.1 l q.1

pub reads-list_exact : ReadsListExact
reads-list_exact y t = once_exact (reading_list y t) _ _ (reads-list y t) (λ c b h l k. list_once y t c b)
