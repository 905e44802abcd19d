-- Scans of what a set operation makes of two lists: where they stop.
use mathlib.Core.Path.{◌≡◌, refl, sym, ap, ap₂, ◌∙◌, subst}
use mathlib.Core.Bool.{Bool, true, false, not, false≢true}
use mathlib.Core.List.{List, [], ◌∷◌}
use Prim.Native.Nat.{ℕ, ◌+◌, ◌-◌, ◌%◌, ◌≤◌, ◌<◌, max}
use native.Mathlib.Omega.{arith}
use lib.ListN.{length, get_or}
use lib.Dec.{eqb}
use lib.Bits.{bit_or}
use borrow.Author.Tests.{eq-eqb, ne_eqb, eqb-true, not-false}
use Rattle.word.specs.Sets.{least_from, Least}
use Rattle.word.proofs.Cases.{by_lt}
use Rattle.word.proofs.Sets.{least}
use Rattle.word.proofs.Eights.{or_none}
use Rattle.word.proofs.Lists.{past}
use Rattle.arch.specs.Scans.{Alike, nonzero_len, is_zero}
use Rattle.arch.proofs.Scans.{alike_none, alike_join, alike_one, nonzero_past, nonzero_at, nonzero_none}
use Rattle.std.specs.Prelude.{Option, Some, None, MatchBool, MatchOption, IfSome}
use Rattle.std.specs.Iterator.{Yields, YieldsThen}
use Rattle.std.specs.Fn.{CalledAt}
use Rattle.std.specs.declared.ops.Range.{Range}
use Rattle.std.proofs.Common.{Bor}
use denote.Param.Members.{Mut}
use Rattle.std.specs.List.{AllWithin, HoldsAt, FoldsTo, range_with_len}
use Rattle.std.proofs.lemmas.List.FromFn.{length-range_with_len, get_or-range_with_len}
use Rattle.pairs.specs.Pairs.{words_by, end_by, nonzero_from, zero_eights}
use Rattle.pairs.specs.declared.SetOp.{SetOp}
use Rattle.pairs.proofs.Tables.{end-zero, end-le, by_length, by_at}

-- some bits of the words from i on, below k, joined: none exactly where each word is 0
pub record Joined (ws : List ℕ) (i k some : ℕ) : Type 0 where
  pub none : some ≡ 0 → Alike ws 0 i k
  pub all : Alike ws 0 i k → some ≡ 0

pub joined-start : (ws : List ℕ) (i : ℕ) → Joined ws i i 0
joined-start ws i = record { none = λ e. alike_none ws 0 i i (omega arith); all = λ s. refl }

pub joined-more : {ws : List ℕ} {i k some x : ℕ} → Joined ws i k some → i ≤ k → x ≡ get_or ws k 0 → Joined ws i (k + 1) (bit_or some x)
joined-more {ws} {i} {k} {some} {x} j h e = record {
  none = λ z. alike_join (j.none (or_none some x z).0) (alike_one ws 0 k (sym e ∙ (or_none some x z).1)) (omega arith);
  all = λ s. ap₂ bit_or (j.all (record { at = λ q a l. s.at q a (omega arith) })) (e ∙ s.at k h (omega arith));
}

-- the end, by an equation
pub joined_to : {ws : List ℕ} {i k some k' : ℕ} → Joined ws i k some → k ≡ k' → Joined ws i k' some
joined_to j e = rw (← e) j

-- ---- every word from an end on is 0

module _ (op : SetOp) (xs ys : List ℕ) where
  pub past_end : (e : ℕ) → e ≡ end_by op (length xs) (length ys) → (n : ℕ) → Alike (words_by op xs ys) 0 e n
  past_end e q n = record {
    at = λ k p l. by_at op xs ys k ∙ end-zero op (length xs) (length ys) k (get_or xs k 0) (get_or ys k 0) (λ h. past xs k h) (λ h. past ys k h) (omega arith);
  }

  pub end-within : (e : ℕ) → e ≡ end_by op (length xs) (length ys) → e ≤ length (words_by op xs ys)
  end-within e q = omega (arith, by_length op xs ys, end-le op (length xs) (length ys))

-- ---- no word at all

pub zero-not : (ws : List ℕ) (k : ℕ) → (get_or ws k 0 ≡ 0 → ⊥) → false ≡ is_zero ws
unfolding is_zero
zero-not ws k n = sym (ne_eqb (nonzero_len ws) 0 (λ e. n (nonzero_past ws k (omega arith))))

pub zero-all : (ws : List ℕ) → Alike ws 0 0 (length ws) → true ≡ is_zero ws
unfolding is_zero
zero-all ws s = sym (eq-eqb (nonzero_len ws) 0 (sym (nonzero_none ws s)))

-- ---- the eights that are passed

module _ (ws : List ℕ) (k : ℕ) where
  first : Least (λ j. not (eqb (get_or ws j 0) 0)) k (k + (length ws - k)) (least_from (λ j. not (eqb (get_or ws j 0) 0)) k (length ws - k))
  first = least (λ j. not (eqb (get_or ws j 0) 0)) k (length ws - k)

  pub from_first : k ≤ nonzero_from ws k
  unfolding nonzero_from
  from_first = first.from

  before_first : Alike ws 0 k (nonzero_from ws k)
  unfolding nonzero_from
  before_first = record { at = λ j a l. eqb-true (get_or ws j 0) 0 (not-false (eqb (get_or ws j 0) 0) (first.under j a l)) }

  pub at_first : nonzero_from ws k < length ws → get_or ws (nonzero_from ws k) 0 ≡ 0 → ⊥
  unfolding nonzero_from
  at_first l z = false≢true (ap not (sym (eq-eqb (get_or ws (nonzero_from ws k) 0) 0 z)) ∙ first.here (omega (arith, first.from)))

  module _ (e r : ℕ) where
    pub eights_zero : r ≡ zero_eights ws e k → (k ≤ r) × Alike ws 0 k r
    unfolding zero_eights
    eights_zero q = (omega arith, record { at = λ j a l. before_first.at j a (omega (arith, from_first)) })

    -- the first other word is not before r
    not-before : r ≤ max k e → e ≤ length ws → Alike ws 0 k r → r ≤ nonzero_from ws k
    not-before h m s =
        by_lt (nonzero_from ws k) r
        (λ l. absurd (at_first (omega (arith, from_first)) (s.at (nonzero_from ws k) from_first l)))
        (λ l. l)

    pub eights_end : k ≤ r → (r - k) % 8 ≡ 0 → r ≤ max k e → e ≤ length ws → Alike ws 0 k r → e < r + 8 → r ≡ zero_eights ws e k
    unfolding zero_eights
    eights_end a w h m s l = omega (arith, not-before h m s)

    pub eights_other : k ≤ r → (r - k) % 8 ≡ 0 → r + 8 ≤ e → e ≤ length ws → Alike ws 0 k r → (Alike ws 0 r (r + 8) → ⊥) → r ≡ zero_eights ws e k
    unfolding zero_eights
    eights_other a w h m s n =
        let near : nonzero_from ws k < r + 8 = by_lt (nonzero_from ws k) (r + 8) (λ l. l) (λ l. absurd (n (record { at = λ j p q. before_first.at j (omega arith) (omega arith) }))) in
        omega (arith, near, not-before (omega arith) m s)

-- ---- all words from the eights on, asked one by one

pub zero_from_all : (op : SetOp) (xs ys : List ℕ) (m a e : ℕ) (r : Bool) → a ≡ zero_eights (words_by op xs ys) m 0 → e ≡ end_by op (length xs) (length ys)
    → MatchBool r (AllWithin (λ k. get_or (words_by op xs ys) k 0 ≡ 0) (range_with_len a (e - a)) 0 (length (range_with_len a (e - a))))
    ((k : ℕ) × (k < length (range_with_len a (e - a))) × HoldsAt (λ k. get_or (words_by op xs ys) k 0 ≡ 0 → ⊥) (range_with_len a (e - a)) k)
    → r ≡ is_zero (words_by op xs ys)
zero_from_all op xs ys m a e true p q h =
    zero-all (words_by op xs ys)
    (alike_join (eights_zero (words_by op xs ys) 0 m a p).1 (alike_join rest (past_end op xs ys e q (length (words_by op xs ys))) (omega arith)) (omega arith))
  where
    rest : Alike (words_by op xs ys) 0 a (max a e)
    rest = record {
      at = λ j u l.
          subst (λ (k : ℕ). get_or (words_by op xs ys) k 0 ≡ 0) {x = get_or (range_with_len a (e - a)) (j - a) 0} {y = j}
          (omega (arith, get_or-range_with_len a (e - a) (j - a) 0 (omega arith)))
          (h (j - a) 0 (omega arith) (omega (arith, length-range_with_len a (e - a))));
    }
zero_from_all op xs ys m a e false p q h = zero-not (words_by op xs ys) (get_or (range_with_len a (e - a)) h.0 0) (h.2 0)

-- ---- the last number of a range that a closure takes

abbrev range_back : Range ℕ → Option ℕ → Range ℕ → Type 0
range_back s r t = (t.start ≡ s.start) × MatchOption r ((s.end - s.start ≡ 0) × (t.end ≡ s.end)) (λ x. (0 < s.end - s.start) × (x ≡ t.end) × (s.end ≡ t.end + 1))

module _ {F : Type 0} (g : Mut F (Bor ℕ × Unit {0}) Bool) (f : F) (Yes No : ℕ → Type 0)
    (yes : (x : ℕ) (q : F) → CalledAt g f x true q → Yes x) (no : (x : ℕ) (q : F) → CalledAt g f x false q → (q ≡ f) × No x) where
  abbrev Last : Range ℕ → Option ℕ → Type 0
  Last s r = MatchOption r ((k : ℕ) → s.start ≤ k → k < s.end → No k) (λ i. (i < s.end) × Yes i × ((k : ℕ) → i < k → k < s.end → No k))

  last_by : (xs : List ℕ) (s t u : Range ℕ) (p q : F) (r : Option ℕ) → p ≡ f → Yields range_back s xs t → range_back t r u
      → FoldsTo (λ p x q. CalledAt g p x false q) p xs q → IfSome r (λ x. (h : F) × CalledAt g q x true h) → Last s r
  last_by [] s t u p q None e y c d h = λ k a b. absurd (omega (arith, c.1.0, ap (λ (k : Range ℕ). k.end - k.start) y))
  last_by [] s t u p q (Some i) e y c d h = (
    omega (arith, c.1, ap (λ (k : Range ℕ). k.end) y),
    yes i h.0 (subst (λ (k : F). CalledAt g k i true h.0) (sym d ∙ e) h.1),
    λ k a b. absurd (omega (arith, c.1, ap (λ (k : Range ℕ). k.end) y)),
  )
  last_by (x ∷ xs) s t u p q r e y c d h =
      let n = no x d.0 (subst (λ (k : F). CalledAt g k x false d.0) e d.1) in
      more r (last_by xs y.0 t u d.0 q r n.0 y.2 c d.2 h)
    where
      one : No x
      one = (no x d.0 (subst (λ (k : F). CalledAt g k x false d.0) e d.1)).1

      more : (o : Option ℕ) → Last y.0 o → Last s o
      more None m = λ k a b. by_lt k x (λ l. m k (omega (arith, y.1.0)) (omega (arith, y.1.1.1))) (λ l. subst No {x = x} {y = k} (omega (arith, y.1.1)) one)
      more (Some i) m = (
        omega (arith, y.1.1, m.0),
        m.1,
        λ k a b. by_lt k x (λ l. m.2 k a (omega (arith, y.1.1.1))) (λ l. subst No {x = x} {y = k} (omega (arith, y.1.1)) one),
      )

  pub last_from_rfind : (s u : Range ℕ) (r : Option ℕ)
      → (xs : List ℕ) × (j : F) × YieldsThen range_back s xs r u × FoldsTo (λ p x q. CalledAt g p x false q) f xs j × IfSome r (λ x. (h : F) × CalledAt g j x true h)
      → Last s r
  last_from_rfind s u r d = last_by d.0 s d.2.0 u f d.1 r refl d.2.1 d.2.2 d.3 d.4

-- the length that the last number tells, or that there is none, where the words from e on are 0
module _ (op : SetOp) (xs ys : List ℕ) (e end : ℕ) (q : end ≡ end_by op (length xs) (length ys)) (z : (e ≤ end) × Alike (words_by op xs ys) 0 e end) where
  abbrev ws : List ℕ
  ws = words_by op xs ys

  behind : (a : ℕ) → a ≤ e → ((k : ℕ) → a ≤ k → k < e → get_or ws k 0 ≡ 0) → Alike ws 0 a (length ws)
  behind a h f = alike_join (alike_join (record { at = f }) z.1 (omega arith)) (past_end op xs ys end q (length ws)) (omega (arith, z.0))

  pub length_at : (i : ℕ) → (i < e) × (get_or ws i 0 ≡ 0 → ⊥) × ((k : ℕ) → i < k → k < e → get_or ws k 0 ≡ 0) → i + 1 ≡ nonzero_len ws
  length_at i h =
      nonzero_at ws (i + 1) (omega arith) (omega (arith, h.0, z.0, end-within op xs ys end q)) (behind (i + 1) (omega (arith, h.0)) (λ k a l. h.2 k (omega arith) l))
      (λ t. h.1 (ap (λ (k : ℕ). get_or ws k 0) {x = i} {y = i + 1 - 1} (omega arith) ∙ t))

  pub length_none : ((k : ℕ) → 0 ≤ k → k < e → get_or ws k 0 ≡ 0) → 0 ≡ nonzero_len ws
  length_none f = nonzero_none ws (behind 0 (omega arith) f)
