-- What `close` composes: the members from p + k on moved down, in the fewest words.
use mathlib.Core.Path.{◌≡◌, sym, ap, ap₂, ◌∙◌, fun_ext}
use mathlib.Core.Bool.{Bool, ◌&&◌, ◌||◌}
use Prim.Native.Nat.{ℕ, ◌+◌, ◌-◌, ◌*◌, ◌^◌, ◌≤◌, ◌<◌, max}
use native.Mathlib.Omega.{arith}
use lib.Dec.{ltb}
use borrow.Author.Tests.{lt-ltb, le-ltb}
use Rattle.word.proofs.Cases.{by_lt, or-false}
use Rattle.storage.specs.Stores.{Bits, Bounded, Outcome, refused, done, and_then, within, words_for, trimmed_count, trimmed, combined}
use Rattle.storage.specs.declared.Refusal.TheVariants.{IndexOver}
use Rattle.storage.proofs.Checks.{within_ok, within_no}
use Rattle.storage.proofs.Once.{same_bits}
use Rattle.storage.proofs.Trims.{trimmed-le}
use Rattle.shifts.specs.Shifts.{moved_up, moved_down}
use Rattle.shifts.proofs.Cases.{moved_up_lem, moved_in}
use Rattle.setops.specs.Setops.{uniting}
use Rattle.shapes.specs.Shapes.{top_of, lowered, lowering, truncated}
use Rattle.shapes.proofs.Cases.{raised, raise_none, raise_over, raise_put}
use Rattle.gap.specs.Gaps.{closing}
use Rattle.gap.specs.Kernels.{gap_closed}
use Rattle.gap.proofs.Tops.{TopAt, ends_of, top_le, ends_count, ends_top, ends_down}
use Rattle.gap.proofs.Tails.{closed_below, closed_from}
use Rattle.gap.proofs.Opens.{words_mono, words_none, tail_ends, tail_count, head_count}

-- the bitmap with the places closed, before any word is dropped
abbrev pub shut : ℕ → ℕ → Bits → Bits
shut p k b = record { members = gap_closed p k b.members; count = b.count }

module _ (p k c : ℕ) (b : Bits) (h : Bounded b) where
  -- the tail moved down by k
  rest : Bits
  unfolding lowered
  rest = lowered k (lowered p b)

  rest_ends : TopAt (moved_down k (moved_down p b.members)) (top_of b - p - k)
  rest_ends = ends_down (moved_down p b.members) (top_of b - p) (tail_ends p b h) k

  inside : top_of b - p - k ≤ 64 * (lowered p b).count
  unfolding words_for
  inside = omega (arith, tail_count p b h)

  rest_count : rest.count ≡ words_for (top_of b - p - k)
  unfolding rest lowered
  rest_count = ends_count (moved_down k (moved_down p b.members)) (top_of b - p - k) rest_ends (lowered p b).count inside

  rest_top : top_of rest ≡ top_of b - p - k
  unfolding rest lowered
  rest_top = ends_top (moved_down k (moved_down p b.members)) (top_of b - p - k) rest_ends (lowered p b).count inside

  -- nothing lies behind the places
  pub close_none : top_of b ≤ p + k → closing p k c b ≡ within c (trimmed (shut p k b))
  unfolding closing and_then lowering uniting combined lowered truncated moved_down rest
  close_none l =
      ap (λ (o : Outcome). and_then o (λ u. uniting u c (truncated p b))) (raise_none _ c rest (rest_top ∙ omega arith))
      ∙ ap (within c) (same_bits members count)
    where
      cut : (i : ℕ) → ltb i p && b.members i ≡ gap_closed p k b.members i
      cut i =
          by_lt i p
          (λ m. ap (λ (x : Bool). x && b.members i) (lt-ltb i p m) ∙ sym (closed_below p k b.members i m))
          (λ m. ap (λ (x : Bool). x && b.members i) (le-ltb i p m) ∙ sym (closed_from p k b.members i m ∙ (ends_of b h).over (i + k) (omega arith)))

      members : (i : ℕ) → (ltb i p && b.members i) || b.members (i + k + p) ≡ gap_closed p k b.members i
      members i = ap₂ ◌||◌ (cut i) ((ends_of b h).over (i + k + p) (omega arith)) ∙ or-false (gap_closed p k b.members i)

      count : max (trimmed_count (λ i. ltb i p && b.members i) b.count) rest.count ≡ trimmed_count (gap_closed p k b.members) b.count
      count =
          let none : top_of b - p - k ≡ 0 = omega arith in
          ap₂ max (ap (λ (s : ℕ → Bool). trimmed_count s b.count) (fun_ext cut)) (rest_count ∙ ap words_for none ∙ words_none)
          ∙ omega arith

  module _ (l : p + k < top_of b) where
    pub close_over : 2 ^ 64 < top_of b - k → closing p k c b ≡ refused IndexOver
    unfolding closing and_then lowering rest
    close_over g =
        ap (λ (o : Outcome). and_then o (λ u. uniting u c (truncated p b))) (raise_over _ c rest (omega (arith, rest_top)) (omega (arith, rest_top)))

    pub closed_ends : TopAt (gap_closed p k b.members) (top_of b - k)
    closed_ends = record {
      last = λ i e. closed_from p k b.members i (omega arith) ∙ (ends_of b h).last (i + k) (omega arith);
      over = λ i m. closed_from p k b.members i (omega arith) ∙ (ends_of b h).over (i + k) (omega arith);
    }

    moved : (i : ℕ) → (ltb i p && b.members i) || moved_up p (moved_down k (moved_down p b.members)) i ≡ gap_closed p k b.members i
    unfolding moved_down
    moved i =
        by_lt i p
        (λ m.
        ap₂ (λ (x y : Bool). (x && b.members i) || y) (lt-ltb i p m) (moved_in p (moved_down k (moved_down p b.members)) i m)
        ∙ or-false (b.members i) ∙ sym (closed_below p k b.members i m))
        (λ m.
        ap (λ (x : Bool). (x && b.members i) || moved_up p (moved_down k (moved_down p b.members)) i) (le-ltb i p m)
        ∙ moved_up_lem p (moved_down k (moved_down p b.members)) i m ∙ ap b.members (omega arith) ∙ sym (closed_from p k b.members i m))

    pub close_put : top_of b - k ≤ 2 ^ 64 → closing p k c b ≡ within c (trimmed (shut p k b))
    unfolding closing and_then lowering uniting combined lowered truncated rest
    close_put g =
        ap (λ (o : Outcome). and_then o (λ u. uniting u c (truncated p b))) (raise_put _ c rest (omega (arith, rest_top)) (omega (arith, rest_top)))
        ∙ by_lt c (trimmed_count (gap_closed p k b.members) b.count)
        (λ m.
        ap (λ (o : Outcome). and_then o (λ u. uniting u c (truncated p b))) (within_no c (raised p rest) (omega (arith, count, fewest)))
        ∙ sym (within_no c (trimmed (shut p k b)) m))
        (λ m.
        ap (λ (o : Outcome). and_then o (λ u. uniting u c (truncated p b))) (within_ok c (raised p rest) (omega (arith, count, fewest)))
        ∙ ap (within c) (same_bits moved (omega (arith, count, fewest, head_count p b h (top_of b - k) (omega arith)))))
      where
        fewest : trimmed_count (gap_closed p k b.members) b.count ≡ words_for (top_of b - k)
        fewest = ends_count (gap_closed p k b.members) (top_of b - k) closed_ends b.count (omega (arith, top_le b))

        count : max rest.count (words_for (top_of rest + p)) ≡ words_for (top_of b - k)
        count =
            let end : top_of rest + p ≡ top_of b - k = omega (arith, rest_top) in
            ap₂ max rest_count (ap words_for end) ∙ omega (arith, words_mono (top_of b - p - k) (top_of b - k) (omega arith))

  -- a bitmap that has space is never refused
  pub close_done : b.count ≤ c → 64 * b.count ≤ 2 ^ 64 → closing p k c b ≡ done (trimmed (shut p k b))
  close_done l g =
      by_lt (p + k) (top_of b) (λ m. close_put m (omega (arith, top_le b))) (λ m. close_none m)
      ∙ within_ok c (trimmed (shut p k b)) (omega (arith, trimmed-le (gap_closed p k b.members) b.count))
