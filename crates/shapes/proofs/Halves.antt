-- What `split_off` promises.
use mathlib.Core.Path.{◌≡◌, refl, sym, ap, ◌∙◌, subst}
use mathlib.Core.List.{List}
use mathlib.Core.Logic.{◌⊎◌, inl, inr}
use Prim.Native.Nat.{ℕ, ◌<◌}
use native.Mathlib.Omega.{arith}
use lib.ListN.{length}
use Rattle.word.proofs.Cases.{by_lt}
use Rattle.storage.specs.Refusals.{number_of, refusing}
use Rattle.storage.specs.Stores.{Bits, Bounded, Outcome, refused, done, no_words, space_of, checked, held, within, store, and_then}
use Rattle.storage.specs.Guards.{Passed}
use Rattle.storage.specs.Promises.{Guarded}
use Rattle.storage.specs.declared.Bitmap.{Bitmap}
use Rattle.storage.specs.declared.Refusal.{Refusal}
use Rattle.storage.specs.declared.Refusal.TheVariants.{NoSpace}
use Rattle.storage.proofs.Checks.{within_ok, within_no}
use Rattle.storage.proofs.Outcomes.{by_outcome}
use Rattle.storage.proofs.Views.{view-count, bounded_view}
use Rattle.storage.proofs.Promises.{guarded, stored}
use Rattle.shapes.specs.Shapes.{lowered, truncated, tail_outcome, head_outcome, split_answer, split_number, split_head, split_tail, Split}
use Rattle.shapes.specs.Promises.{LoweredBy, TruncatedTo, SplitKept, Halves, SplitMeans, SplitOffMeans, SplitKeeps}
use Rattle.shapes.proofs.Promises.{lowers_by, bounded_lowered, truncates_to, bounded_truncated}

module _ (at : ℕ) (ws : List ℕ) (b : Bitmap) (ts : List ℕ) where
  abbrev v : Bits
  v = held ws b

  -- the answer and both stores, by what became of the tail
  abbrev answered : Outcome → Split
  answered o = split_answer (and_then o (λ t. done (truncated at v))) o b

  abbrev first : Outcome → List ℕ
  first o = store (and_then o (λ t. done (truncated at v))) ws b.count

  abbrev second : Outcome → List ℕ
  second o = store o ts 0

  -- what is promised of them
  abbrev No : Outcome → ℕ → Type 0
  No o = SplitKept b ws ts (split_number (answered o)) (split_head (answered o)).count (split_tail (answered o)) (first o) (second o)

  abbrev Rest : Outcome → Type 0
  Rest o =
      Halves at b ws ts (split_number (answered o)) (split_head (answered o)).count (split_tail (answered o)) (first o) (second o)
      ⊎ (No o 6 × (s : Bits) × LoweredBy at v s × (length ts < s.count))

  keeps : (e : Refusal) → No (refused e) (number_of e)
  unfolding split_answer and_then store
  keeps e = record { head = record { number = refl; count = refl; words = refl }; tail = record { number = refl; count = refl; words = refl } }

  rest : Passed ws b → Rest (within (space_of ts) (lowered at v))
  unfolding split_answer and_then store
  rest p =
      by_lt (length ts) (lowered at v).count
      (λ k. subst Rest (sym (within_no (length ts) (lowered at v) k)) (inr (keeps NoSpace, lowered at v, lowers_by at v, k)))
      (λ k. subst Rest (sym (within_ok (length ts) (lowered at v) k)) (inl (record {
        head = stored (TruncatedTo at v) b.count ws _ (truncated at v) _ _ p.inside
            (omega (arith, (truncates_to at v).count.low, view-count ws b.count, p.inside))
            (bounded_truncated at v bound) (truncates_to at v) refl refl refl;
        tail = stored (LoweredBy at v) 0 ts _ (lowered at v) _ _ (omega arith) k (bounded_lowered at v bound) (lowers_by at v) refl refl refl;
      })))
    where
      bound : Bounded v
      bound = bounded_view ws b.count

  means : (o : Outcome) → o ≡ tail_outcome at ws b ts
      → SplitMeans at ws b ts (split_number (answered o)) (split_head (answered o)).count (split_tail (answered o)) (first o) (second o)
  unfolding tail_outcome
  means =
      guarded ws b refused (checked ts no_words refused (within (space_of ts) (lowered at v))) No (λ o. Guarded ts no_words (No o) (Rest o)) keeps
      (λ p. guarded ts no_words refused (within (space_of ts) (lowered at v)) No Rest keeps (λ q. rest p) _ refl)

pub split_means : SplitOffMeans
unfolding head_outcome
split_means at ws b ts r ws' ts' s =
    subst (λ (x : Split). SplitMeans at ws b ts (split_number x) (split_head x).count (split_tail x) ws' ts') (sym s.answers)
    (subst (λ (x : List ℕ). SplitMeans at ws b ts (split_number a) (split_head a).count (split_tail a) x ts') (sym s.head)
    (subst (λ (x : List ℕ). SplitMeans at ws b ts (split_number a) (split_head a).count (split_tail a) (first at ws b ts o) x) (sym s.tail)
    (means at ws b ts o refl)))
  where
    o : Outcome
    o = tail_outcome at ws b ts

    a : Split
    a = answered at ws b ts o

-- whatever a split is refused with, all is as it was
pub split_keeps : SplitKeeps
unfolding head_outcome split_answer and_then store
split_keeps at ws b ts r ws' ts' s p =
    by_outcome (tail_outcome at ws b ts)
    (λ t q. absurd (omega (arith, ap split_number s.answers, ap (λ (o : Outcome). split_number (answered at ws b ts o)) q)))
    (λ e q.
    let a : r ≡ refusing b e = s.answers ∙ ap (answered at ws b ts) q in
    (ap split_head a, ap split_tail a, s.head ∙ ap (first at ws b ts) q, s.tail ∙ ap (second at ws b ts) q))
