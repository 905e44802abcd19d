-- A bitmap split: the tail moved down into a second store, the head cut.
use mathlib.Core.Path.{◌≡◌, sym, ap, ap₂, ◌∙◌}
use mathlib.Core.Bool.{Bool, false}
use mathlib.Core.List.{List, ◌++◌}
use Prim.Native.Nat.{ℕ, suc, ◌+◌, ◌-◌, ◌*◌, ◌/◌, ◌≤◌, ◌<◌}
use native.Mathlib.Omega.{arith}
use lib.ListN.{length, take, drop}
use lib.Seq.{length-take-le}
use Rattle.word.specs.Sets.{top_below, Top}
use Rattle.word.specs.Places.{member, words_of}
use Rattle.word.proofs.Cases.{by_lt, zero_one}
use Rattle.word.proofs.Sets.{top, top_is}
use Rattle.word.proofs.Lists.{Fit}
use Rattle.arch.specs.Scans.{nonzero_len, filled}
use Rattle.storage.specs.Stores.{Bits, Outcome, refused, done, with_count, no_words, space_of, checked, held, reading, within, words_for, trimmed_count, store, and_then}
use Rattle.storage.specs.Guards.{Passed}
use Rattle.storage.specs.declared.Bitmap.{Bitmap}
use Rattle.storage.specs.declared.Refusal.{Refusal}
use Rattle.storage.specs.declared.Refusal.TheVariants.{NoSpace}
use Rattle.storage.proofs.Checks.{checked_ok, stopped, reading_ok, reading_stopped, raised, told, told-refused, within_ok, within_no}
use Rattle.storage.proofs.Views.{view-count, view_out, view-whole}
use Rattle.storage.proofs.Stores.{Stored, stored_written, part_stored}
use Rattle.shifts.specs.Shifts.{moved_down}
use Rattle.shapes.specs.Shapes.{top_of, lowered, truncated, tail_outcome, head_outcome, split_answer, Split, Splits}
use Rattle.shape.proofs.Sizes.{truncate_stored, truncate_count}
use Rattle.storage.specs.Refusals.{Amount, passing, refusing}
use Rattle.storage.specs.declared.Refused.{Refused}
use Rattle.std.specs.Prelude.{Ok, Err, IsErr, IsErrAnd}

-- ---- the greatest member moves down with the others

pub top_lowered : (s : ℕ → Bool) (e at : ℕ) → ((i : ℕ) → e ≤ i → s i ≡ false) → top_below (moved_down at s) e ≡ top_below s e - at
unfolding moved_down
top_lowered s e at none =
    top_is (moved_down at s) e (top_below s e - at)
    (record {
      within = omega (arith, t.within);
      last = λ k q. t.last (k + at) (omega arith);
      over = λ k a b. by_lt (k + at) e (λ l. t.over (k + at) (omega arith) l) (λ l. none (k + at) l);
    })
  where
    t : Top s e (top_below s e)
    t = top s e

pub lowered-count : (at : ℕ) (ws : List ℕ) (b : Bitmap) → (lowered at (held ws b)).count ≡ words_for (top_of (held ws b) - at)
unfolding lowered trimmed_count
lowered-count at ws b =
    ap words_for (top_lowered (held ws b).members (64 * (held ws b).count) at (λ i l. view_out ws b.count i (omega (arith, view-count ws b.count))))

-- ---- the words that the tail needs

pub tail_none : (s : Bits) (at t : ℕ) → top_of s ≡ t → t ≤ at → 0 ≡ words_for (top_of s - at)
unfolding words_for
tail_none s at t e h = omega arith

pub tail_some : (s : Bits) (at p : ℕ) → top_of s ≡ suc p → at ≤ p → (p - at) / 64 + 1 ≡ words_for (top_of s - at)
unfolding words_for
tail_some s at p e h = omega arith

module _ (ws : List ℕ) (b : Bitmap) (at : ℕ) where
  pub tail_raised : {r : Amount} {e : Refusal} → IsErr r × IsErrAnd r (λ x. x ≡ e) → refusing b e ≡ checked ws b (refusing b) passing
      → r ≡ reading ws b Err (λ s. Ok (lowered at s).count)
  tail_raised {r} {e} q p = raised q ∙ sym (reading_stopped ws b (e, b) Err (λ s. Ok (lowered at s).count) p)

  pub tail_is : (m : ℕ) → Passed ws b → m ≡ words_for (top_of (held ws b) - at) → Ok m ≡ reading ws b Err (λ s. Ok (lowered at s).count)
  tail_is m p e = ap Ok (e ∙ sym (lowered-count at ws b)) ∙ sym (reading_ok ws b Err (λ s. Ok (lowered at s).count) p)

  -- what the answer tells
  pub tail_told_refused : (e : Refusal) → Err e ≡ reading ws b Err (λ s. Ok (lowered at s).count) → refusing b e ≡ checked ws b (refusing b) passing
  tail_told_refused e q =
      told-refused ws b Err (λ s. Ok (lowered at s).count) e (λ d r. cc) (λ s r. zero_one cc) q

  pub tail_told : (m : ℕ) → Ok m ≡ reading ws b Err (λ s. Ok (lowered at s).count) → Passed ws b × (m ≡ (lowered at (held ws b)).count)
  tail_told m q =
      let a = told ws b Err (λ s. Ok (lowered at s).count) (Ok m) (λ e r. zero_one cc) q in
      (a.0, same (lowered at (held ws b)).count a.1)
    where
      same : (k : ℕ) → ◌≡◌ {A = Amount} (Ok m) (Ok k) → m ≡ k
      same k e = cc

  pub tail_inside : (lowered at (held ws b)).count ≤ b.count - at / 64
  unfolding words_for
  tail_inside = omega (arith, lowered-count at ws b, (top (held ws b).members (64 * (held ws b).count)).within, view-count ws b.count)

-- ---- the call

module _ (ws ts : List ℕ) (b : Bitmap) (at : ℕ) where
  split-refused : (e : Refusal) → tail_outcome at ws b ts ≡ refused e → Splits at ws b ts (refusing b e) ws ts
  unfolding head_outcome split_answer and_then store
  split-refused e q = record {
    answers = sym (ap (λ (o : Outcome). split_answer (and_then o (λ t. done (truncated at (held ws b)))) o b) q);
    head = sym (ap (λ (o : Outcome). store (and_then o (λ t. done (truncated at (held ws b)))) ws b.count) q);
    tail = sym (ap (λ (o : Outcome). store o ts 0) q);
  }

  pub split_stopped : (e : Refusal) → refusing b e ≡ checked ws b (refusing b) passing → Splits at ws b ts (refusing b e) ws ts
  unfolding tail_outcome
  split_stopped e p = split-refused e (stopped ws b (e, b) refused _ p)

  module _ (p : Passed ws b) where
    pub split_second : (e : Refused) → Err e ≡ checked ts no_words (refusing no_words) passing → Splits at ws b ts (refusing b e.0) ws ts
    unfolding tail_outcome
    split_second e q = split-refused e.0 (checked_ok ws b refused _ p ∙ stopped ts no_words e refused _ q)

    module _ (q : Passed ts no_words) where
      pub tail_within : tail_outcome at ws b ts ≡ within (space_of ts) (lowered at (held ws b))
      unfolding tail_outcome
      tail_within = checked_ok ws b refused _ p ∙ checked_ok ts no_words refused _ q

      pub split_no_space : (m : ℕ) → m ≡ (lowered at (held ws b)).count → length ts < m → Splits at ws b ts (refusing b NoSpace) ws ts
      split_no_space m e h = split-refused NoSpace (tail_within ∙ within_no (length ts) (lowered at (held ws b)) (omega arith))

      pub split_done : (m r : ℕ) (part low : List ℕ) → m ≡ (lowered at (held ws b)).count → m ≤ length ts → Fit ws
          → low ≡ words_of (moved_down at (member (take b.count ws))) (length (take m ts))
          → part ≡ filled at (64 * b.count) false (take b.count ws) → r ≡ nonzero_len (take b.count (part ++ drop b.count ws))
          → Splits at ws b ts (Ok (with_count b r, with_count no_words m)) (part ++ drop b.count ws) (low ++ drop m ts)
      unfolding head_outcome split_answer and_then store lowered
      split_done m r part low em h fit el ep er = record {
        answers =
            ap₂ {C = Split} (λ (x y : ℕ). Ok (with_count b x, with_count no_words y)) (er ∙ truncate_count ws b at fit p part ep) em
            ∙ sym (ap (λ (o : Outcome). split_answer (and_then o (λ t. done (truncated at (held ws b)))) o b) is);
        head =
            stored_written ws b.count (truncated at (held ws b)) (part ++ drop b.count ws) (truncate_stored ws b at fit p part ep)
            ∙ sym (ap (λ (o : Outcome). store (and_then o (λ t. done (truncated at (held ws b)))) ws b.count) is);
        tail = stored_written ts 0 (lowered at (held ws b)) (low ++ drop m ts) tails ∙ sym (ap (λ (o : Outcome). store o ts 0) is);
      }
        where
          is : tail_outcome at ws b ts ≡ done (lowered at (held ws b))
          is = tail_within ∙ within_ok (length ts) (lowered at (held ws b)) (omega arith)

          front : Stored ts m (lowered at (held ws b)) (low ++ drop m ts)
          front =
              part_stored ts (low ++ drop m ts) m (moved_down at (member (take b.count ws))) (lowered at (held ws b)) h
              (ap (λ (y : List ℕ). y ++ drop m ts) (el ∙ ap (words_of (moved_down at (member (take b.count ws)))) (length-take-le m ts h))) (sym em)
              (λ i l. ap (λ (v : ℕ → Bool). moved_down at v i) (sym (view-whole ws b.count p.inside)))

          -- no word of the tail's store was in use
          tails : Stored ts 0 (lowered at (held ws b)) (low ++ drop m ts)
          tails = record {
            long = front.long;
            fits = front.fits;
            used = front.used;
            dropped = λ k l q. absurd (omega arith);
            kept = λ k l q. front.kept k l (omega arith);
          }
