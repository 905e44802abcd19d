-- Rules that make one result, with the conditions of refusal that most calls have.
use mathlib.Core.Path.{◌≡◌, sym, ap, ap₂, ◌∙◌, fun_ext}
use mathlib.Core.Bool.{Bool, true}
use mathlib.Core.Logic.{◌↔◌}
use Prim.Native.Nat.{ℕ, ◌+◌, ◌≤◌, ◌<◌, max}
use native.Mathlib.Omega.{arith}
use Rattle.word.proofs.Cases.{by_lt, by_eq, same_test}
use Rattle.pairs.specs.declared.SetOp.{SetOp}
use Rattle.storage.specs.Stores.{Bits}
use Rattle.storage.specs.Promises.{LeastCount, Combines, Unites, Never, Lacks, LacksResult, OneEnd}

-- a bitmap is its members and its count
pub same_bits : {b s : Bits} → ((i : ℕ) → b.members i ≡ s.members i) → b.count ≡ s.count → b ≡ s
same_bits f e = ap₂ (λ (m : ℕ → Bool) (n : ℕ). record { members = m; count = n }) (fun_ext f) e

-- two sets of which each member of one is a member of the other
pub same_set : (f g : ℕ → Bool) → ((i : ℕ) → f i ≡ true → g i ≡ true) → ((i : ℕ) → g i ≡ true → f i ≡ true) → (i : ℕ) → f i ≡ g i
same_set f g to from i = same_test (f i) (g i) (to i, from i)

-- agreeing on the numbers from i on, below i + k, and on all others
pub by_region : (i k : ℕ) (f g : ℕ → Bool) → ((j : ℕ) → j < i → f j ≡ g j) → ((j : ℕ) → i ≤ j → j < i + k → f j ≡ g j)
    → ((j : ℕ) → i + k ≤ j → f j ≡ g j) → (j : ℕ) → f j ≡ g j
by_region i k f g before inside after j = by_lt j i (before j) (λ l. by_lt j (i + k) (inside j l) (after j))

-- agreeing on i and, with b, on all others
pub one_bit : (b s t : Bits) (i : ℕ) (v : Bool) → s.members i ≡ v → t.members i ≡ v → ((j : ℕ) → (j ≡ i → ⊥) → s.members j ≡ b.members j)
    → ((j : ℕ) → (j ≡ i → ⊥) → t.members j ≡ b.members j) → (j : ℕ) → s.members j ≡ t.members j
one_bit b s t i v p q m n j = by_eq j i (λ e. ap s.members e ∙ p ∙ sym q ∙ ap t.members (sym e)) (λ e. m j e ∙ sym (n j e))

-- the same set in the fewest words
pub fewest_of : (n : ℕ) (f g : ℕ → Bool) (k m : ℕ) → ((i : ℕ) → f i ≡ g i) → LeastCount f n k → LeastCount g n m → k ≡ m
fewest_of n f g k m e a b =
    omega (arith, a.least m (λ i l y. b.holds i l (sym (e i) ∙ y)), b.least k (λ i l y. a.holds i l (e i ∙ y)))

-- set operations of two bitmaps

-- two sets with the same condition for a member
pub by_condition : {In : ℕ → Type 0} (f g : ℕ → Bool) → ((i : ℕ) → (f i ≡ true) ↔ In i) → ((i : ℕ) → (g i ≡ true) ↔ In i) → (i : ℕ) → f i ≡ g i
by_condition f g p q = same_set f g (λ i y. (q i).1 ((p i).0 y)) (λ i y. (p i).1 ((q i).0 y))

pub one-combined : (op : SetOp) (o b s t : Bits) → Combines op o b s → Combines op o b t → s ≡ t
one-combined op o b s t p q =
    let e : (i : ℕ) → s.members i ≡ t.members i = by_condition s.members t.members p.each q.each in
    same_bits e (fewest_of (max b.count o.count) s.members t.members s.count t.count e p.count q.count)

pub one_united : (o b s t : Bits) → Unites o b s → Unites o b t → s ≡ t
one_united o b s t p q =
    same_bits (by_condition s.members t.members p.each q.each) (p.count ∙ sym q.count)

-- ---- with the conditions that most calls have

pub once_never : (c : ℕ) (b : Bits) (rule : Bits → Type 0) → ((s t : Bits) → rule s → rule t → s ≡ t) → OneEnd c rule (Never c b)
once_never c b rule one = record { result = one; number = λ k l p q. absurd p; apart = λ s k r l p. p }

pub once_lacks : (c : ℕ) (b : Bits) (rule : Bits → Type 0) (n : Bits → ℕ) → ((s t : Bits) → rule s → rule t → s ≡ t) → ((s : Bits) → rule s → s.count ≡ n b)
    → OneEnd c rule (Lacks n c b)
once_lacks c b rule n one count = record { result = one; number = λ k l p q. p.0 ∙ sym q.0; apart = λ s k r l p. absurd (omega (arith, p.1, count s r)) }

pub once_lacks_result : (c : ℕ) (b : Bits) (rule : Bits → Bits → Type 0) → ((s t : Bits) → rule b s → rule b t → s ≡ t)
    → OneEnd c (rule b) (LacksResult rule c b)
once_lacks_result c b rule one = record {
  result = one;
  number = λ k l p q. p.0 ∙ sym q.0;
  apart = λ s k r l p. let (t, u, m) = p.1 in absurd (omega (arith, m, ap (λ (x : Bits). x.count) (one s t r u)));
}
