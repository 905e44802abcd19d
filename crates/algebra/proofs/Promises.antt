-- The promises of specs/Promises.
use Rattle.std.proofs.Common.{◌≡◌, ℕ, zero, suc, ◌+◌, ◌*◌, ◌≤◌, max, Bool, true, false, eqb, List, sym, refl, ◌∙◌, inl, inr, arith, eq-eqb, eqb-true, Ok, Err}
use mathlib.Core.Bool.{false≢true}
use Rattle.word.specs.Sets.{val, count_below, Counted}
use Rattle.word.proofs.Cases.{by_test}
use Rattle.word.proofs.Sets.{count_none, count_ext, count_flat, counts, counted}
use Rattle.pairs.specs.Pairs.{table_of}
use Rattle.pairs.specs.Promises.{ComesIn}
use Rattle.pairs.proofs.Promises.{table_means}
use Rattle.pairs.specs.declared.SetOp.{SetOp}
use Rattle.pairs.specs.declared.SetOp.TheVariants.{And, AndNot, Or, Xor}
use Rattle.storage.specs.Refusals.{answer_number, amount_value, truth_value}
use Rattle.storage.specs.Promises.{MadeOf, GuardedBoth, HandsNone, Hands, Tests}
use Rattle.storage.specs.Stores.{Bits, Bounded, view, size, combined}
use Rattle.storage.specs.declared.Bitmap.{Bitmap}
use Rattle.storage.proofs.Combined.{size_none, none_of_size, made_of, made_is}
use Rattle.storage.proofs.Outcomes.{bounded_combined}
use Rattle.storage.proofs.Promises.{guarded_map, both_means, tests}
use Rattle.storage.proofs.Views.{view_out}
use Rattle.algebra.specs.Algebra.{empty_of, count_of}
use Rattle.algebra.specs.Promises.{is_in, TestMeans, SubsetMeans, DisjointMeans, CountExact, CountMeans, CountsAddUp}
use Rattle.storage.specs.Refusals.{Amount}

-- ---- the set that an operation makes

module _ (op : SetOp) (b o : Bits) (h : Bounded b) (k : Bounded o) where
  abbrev set : Bits
  set = combined op b o

  none : size set ≡ 0 → (i : ℕ) → set.members i ≡ false
  none = none_of_size set (bounded_combined op b o h k)

  none_comes : Tests ((i : ℕ) → ComesIn op (b.members i) (o.members i) → ⊥) 0 (val (eqb (size set) 0))
  none_comes =
      tests ((i : ℕ) → ComesIn op (b.members i) (o.members i) → ⊥) (eqb (size set) 0)
      (λ t i c. false≢true (sym (none (eqb-true (size set) 0 t) i) ∙ (made_of op b o i).1 c))
      (λ e. eq-eqb (size set) 0 (size_none set (λ i. by_test (set.members i) (λ t. absurd (e i ((made_of op b o i).0 t))) (λ t. t))))

  count_exact : (s : ℕ → Bool) → MadeOf op b o s → CountExact s (64 * max b.count o.count) (size set)
  unfolding size combined
  count_exact s m = record {
    all = λ e l. counted s e _ (count_ext s set.members e (λ i p. is i) ∙ count_flat set.members (64 * max b.count o.count) e l (bounded_combined op b o h k).past);
    none = λ e i. is i ∙ none e i;
    zero = λ e. size_none set (λ i. sym (is i) ∙ e i);
  }
    where
      is : (i : ℕ) → s i ≡ set.members i
      is = made_is op b o s m

-- ---- tests

pub test_means : TestMeans
unfolding empty_of
test_means op =
    both_means Err (λ b o. Ok (eqb (size (combined op b o)) 0)) (λ r. HandsNone (answer_number r) (truth_value r))
    (λ b o r. Tests ((i : ℕ) → ComesIn op (b.members i) (o.members i) → ⊥) (answer_number r) (truth_value r)) (λ e. (refl, refl)) (none_comes op)

-- what is tested, said in another way
tests_as : {P Q : Type 0} {x v : ℕ} → (P → Q) → (Q → P) → Tests P x v → Tests Q x v
tests_as f g (e, inl x) = (e, inl (x.0, f x.1))
tests_as f g (e, inr x) = (e, inr (x.0, λ q. x.1 (g q)))

both_as : {ws : List ℕ} {b : Bitmap} {os : List ℕ} {o : Bitmap} {No : ℕ → Type 0} {P Q : Type 0} → (P → Q) → GuardedBoth ws b os o No P → GuardedBoth ws b os o No Q
both_as f = guarded_map (λ p. guarded_map (λ q. f))

pub subset_means : SubsetMeans
subset_means ws b os o r q =
    both_as
    (tests_as (λ e i p. by_test (is_in os o i) (λ t. t) (λ t. absurd (e i (p, t)))) (λ h i c. false≢true (sym c.1 ∙ h i c.0)))
    (test_means AndNot ws b os o r q)

pub disjoint_means : DisjointMeans
disjoint_means ws b os o r q = both_as (tests_as (λ e i s t. e i (s, t)) (λ h i c. h i c.0 c.1)) (test_means And ws b os o r q)

-- ---- counts

pub count_means : CountMeans
unfolding count_of view
count_means op =
    both_means Err (λ b o. Ok (size (combined op b o))) (λ r. HandsNone (answer_number r) (amount_value r))
    (λ b o r. (s : ℕ → Bool) → MadeOf op b o s → Hands (CountExact s (64 * max b.count o.count)) (answer_number r) (amount_value r)) (λ e. (refl, refl))
    (λ b o h k s m. (refl, count_exact op b o h k s m))

-- ---- counts that add up

-- place by place
count-sum : (s t u v : ℕ → Bool) → ((i : ℕ) → val (s i) + val (t i) ≡ val (u i) + val (v i)) → (m : ℕ)
    → count_below s m + count_below t m ≡ count_below u m + count_below v m
unfolding count_below
count-sum s t u v h zero = refl
count-sum s t u v h (suc m) = omega (arith, h m, count-sum s t u v h m)

and-or-sum : (p q : Bool) → val (table_of And p q) + val (table_of Or p q) ≡ val p + val q
and-or-sum true true = refl
and-or-sum true false = refl
and-or-sum false true = refl
and-or-sum false false = refl

xor-and-sum : (p q : Bool) → val (table_of Xor p q) + val (table_of And p q) ≡ val (table_of Or p q) + val false
xor-and-sum true true = refl
xor-and-sum true false = refl
xor-and-sum false true = refl
xor-and-sum false false = refl

andnot-and-sum : (p q : Bool) → val (table_of AndNot p q) + val (table_of And p q) ≡ val p + val false
andnot-and-sum true true = refl
andnot-and-sum true false = refl
andnot-and-sum false true = refl
andnot-and-sum false false = refl

pub counts_add_up : CountsAddUp
counts_add_up ws b os o h k a u x d ea eu ex ed s t cs ct = record {
  and-or = omega (arith, is And a ea, is Or u eu, first, own os o t (omega arith) ct, sums (by And) (by Or) (is_in ws b) (is_in os o) (λ i. and-or-sum (is_in ws b i) (is_in os o i)));
  xor-and = omega (arith, is Xor x ex, is And a ea, is Or u eu, nothing, sums (by Xor) (by And) (by Or) (λ i. false) (λ i. xor-and-sum (is_in ws b i) (is_in os o i)));
  andnot-and = omega (arith, is AndNot d ed, is And a ea, first, nothing, sums (by AndNot) (by And) (is_in ws b) (λ i. false) (λ i. andnot-and-sum (is_in ws b i) (is_in os o i)));
}
  where
    end : ℕ
    end = 64 * max b.count o.count

    by : SetOp → ℕ → Bool
    by op i = table_of op (is_in ws b i) (is_in os o i)

    is : (op : SetOp) (r : Amount) → r ≡ count_of op ws b os o → amount_value r ≡ count_below (by op) end
    is op r e =
        sym
        (((((count_means op ws b os o r e).rest h).rest k (by op) (λ i. table_means op (is_in ws b i) (is_in os o i))).1.all end (omega arith)).all (count_below (by op)) (counts (by op)))

    own : (ws : List ℕ) (b : Bitmap) (v : ℕ) → 64 * b.count ≤ end → Counted (is_in ws b) (64 * b.count) v → count_below (is_in ws b) end ≡ v
    own ws b v l c = count_flat (is_in ws b) (64 * b.count) end l (λ i p. view_out ws b.count i p) ∙ c.all (count_below (is_in ws b)) (counts (is_in ws b))

    first : count_below (is_in ws b) end ≡ s
    first = own ws b s (omega arith) cs

    nothing : count_below (λ i. false) end ≡ 0
    nothing = count_none (λ i. false) end (λ i l. refl)

    sums : (f g p q : ℕ → Bool) → ((i : ℕ) → val (f i) + val (g i) ≡ val (p i) + val (q i)) → count_below f end + count_below g end ≡ count_below p end + count_below q end
    sums f g p q e = count-sum f g p q e end
