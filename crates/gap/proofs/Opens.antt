-- What `open` composes: the members from p on moved up, in the fewest words.
use mathlib.Core.Path.{◌≡◌, refl, sym, ap, ap₂, ◌∙◌, fun_ext}
use mathlib.Core.Bool.{Bool, true, false, ◌&&◌, ◌||◌, false≢true}
use Prim.Native.Nat.{ℕ, ◌+◌, ◌-◌, ◌*◌, ◌/◌, ◌^◌, ◌≤◌, ◌<◌, max}
use native.Mathlib.Omega.{arith}
use lib.Dec.{ltb}
use borrow.Author.Tests.{lt-ltb, le-ltb}
use Rattle.word.proofs.Cases.{by_lt, or-false}
use Rattle.storage.specs.Stores.{Bits, Bounded, Outcome, refused, and_then, within, words_for, trimmed_count, trimmed, combined}
use Rattle.storage.specs.declared.Refusal.TheVariants.{IndexOver}
use Rattle.storage.proofs.Checks.{within_ok, within_no}
use Rattle.storage.proofs.Once.{same_bits}
use Rattle.storage.proofs.Trims.{trimmed_least}
use Rattle.shifts.specs.Shifts.{moved_up, moved_down}
use Rattle.shifts.proofs.Cases.{moved_up_lem, moved_in}
use Rattle.setops.specs.Setops.{uniting}
use Rattle.shapes.specs.Shapes.{top_of, cut_at, lowered, truncated}
use Rattle.shapes.proofs.Cases.{raised, raise_none, raise_over, raise_put}
use Rattle.gap.specs.Gaps.{opening}
use Rattle.gap.specs.Kernels.{gap_opened}
use Rattle.gap.proofs.Tops.{TopAt, ends_of, top_le, ends_count, ends_top, ends_down}
use Rattle.gap.proofs.Tails.{opened_below, opened_gap, opened_from}

-- the words of a set that ends at or before another
pub words_mono : (s t : ℕ) → s ≤ t → words_for s ≤ words_for t
unfolding words_for
words_mono s t h = omega arith

pub words_none : words_for 0 ≡ 0
unfolding words_for
words_none = refl

-- ---- the head and the tail of a bitmap cut at p

module _ (p : ℕ) (b : Bits) (h : Bounded b) where
  pub tail_ends : TopAt (moved_down p b.members) (top_of b - p)
  tail_ends = ends_down b.members (top_of b) (ends_of b h) p

  pub tail_count : (lowered p b).count ≡ words_for (top_of b - p)
  unfolding lowered
  tail_count = ends_count (moved_down p b.members) (top_of b - p) tail_ends b.count (omega (arith, top_le b))

  pub tail_top : top_of (lowered p b) ≡ top_of b - p
  unfolding lowered
  tail_top = ends_top (moved_down p b.members) (top_of b - p) tail_ends b.count (omega (arith, top_le b))

  -- the head holds no number from p on
  pub head_count : (t : ℕ) → p ≤ t → (truncated p b).count ≤ words_for t
  unfolding truncated words_for
  head_count t l = trimmed_least (cut_at p b).members b.count ((t + 63) / 64) below
    where
      below : (i : ℕ) → i < 64 * b.count → ltb i p && b.members i ≡ true → i < 64 * ((t + 63) / 64)
      below i a e =
          by_lt i p (λ m. omega arith)
          (λ m. let z : false ≡ true = sym (ap (λ (x : Bool). x && b.members i) (le-ltb i p m)) ∙ e in absurd (false≢true z))

-- ---- the cases

module _ (p k c : ℕ) (b : Bits) (h : Bounded b) where
  -- there is no tail
  pub open_none : top_of b ≤ p → opening p k c b ≡ within c (trimmed b)
  unfolding opening and_then uniting combined lowered truncated moved_down
  open_none l =
      ap (λ (o : Outcome). and_then o (λ t. uniting t c (truncated p b))) (raise_none _ c (lowered p b) (tail_top p b h ∙ omega arith))
      ∙ ap (within c) (same_bits members count)
    where
      cut : (i : ℕ) → ltb i p && b.members i ≡ b.members i
      cut i =
          by_lt i p
          (λ m. ap (λ (x : Bool). x && b.members i) (lt-ltb i p m))
          (λ m. ap (λ (x : Bool). x && b.members i) (le-ltb i p m) ∙ sym ((ends_of b h).over i (omega arith)))

      members : (i : ℕ) → (ltb i p && b.members i) || b.members (i + p) ≡ b.members i
      members i = ap₂ ◌||◌ (cut i) ((ends_of b h).over (i + p) (omega arith)) ∙ or-false (b.members i)

      count : max (trimmed_count (λ i. ltb i p && b.members i) b.count) (lowered p b).count ≡ trimmed_count b.members b.count
      count =
          let none : top_of b - p ≡ 0 = omega arith in
          ap₂ max (ap (λ (s : ℕ → Bool). trimmed_count s b.count) (fun_ext cut)) (tail_count p b h ∙ ap words_for none ∙ words_none)
          ∙ omega arith

  module _ (l : p < top_of b) where
    pub open_over : 2 ^ 64 < top_of b + k → opening p k c b ≡ refused IndexOver
    unfolding opening and_then
    open_over g =
        ap (λ (o : Outcome). and_then o (λ t. uniting t c (truncated p b)))
        (raise_over _ c (lowered p b) (omega (arith, tail_top p b h)) (omega (arith, tail_top p b h)))

    pub opened_ends : TopAt (gap_opened p k b.members) (top_of b + k)
    opened_ends = record {
      last = λ i e. opened_from p k b.members i (omega arith) ∙ (ends_of b h).last (i - k) (omega arith);
      over = λ i m. opened_from p k b.members i (omega arith) ∙ (ends_of b h).over (i - k) (omega arith);
    }

    moved : (i : ℕ) → (ltb i p && b.members i) || moved_up (p + k) (moved_down p b.members) i ≡ gap_opened p k b.members i
    unfolding moved_down
    moved i =
        by_lt i p
        (λ m.
        ap₂ (λ (x y : Bool). (x && b.members i) || y) (lt-ltb i p m) (moved_in (p + k) (moved_down p b.members) i (omega arith))
        ∙ or-false (b.members i) ∙ sym (opened_below p k b.members i m))
        (λ m.
        ap (λ (x : Bool). (x && b.members i) || moved_up (p + k) (moved_down p b.members) i) (le-ltb i p m)
        ∙ by_lt i (p + k)
        (λ q. moved_in (p + k) (moved_down p b.members) i q ∙ sym (opened_gap p k b.members i m q))
        (λ q. moved_up_lem (p + k) (moved_down p b.members) i q ∙ ap b.members (omega arith) ∙ sym (opened_from p k b.members i q)))

    pub open_put : top_of b + k ≤ 2 ^ 64 → opening p k c b ≡ within c (record { members = gap_opened p k b.members; count = words_for (top_of b + k) })
    unfolding opening and_then uniting combined lowered truncated
    open_put g =
        ap (λ (o : Outcome). and_then o (λ t. uniting t c (truncated p b)))
        (raise_put _ c (lowered p b) (omega (arith, tail_top p b h)) (omega (arith, tail_top p b h)))
        ∙ by_lt c (words_for (top_of b + k))
        (λ m.
        ap (λ (o : Outcome). and_then o (λ t. uniting t c (truncated p b))) (within_no c (raised (p + k) (lowered p b)) (omega (arith, count)))
        ∙ sym (within_no c (record { members = gap_opened p k b.members; count = words_for (top_of b + k) }) m))
        (λ m.
        ap (λ (o : Outcome). and_then o (λ t. uniting t c (truncated p b))) (within_ok c (raised (p + k) (lowered p b)) (omega (arith, count)))
        ∙ ap (within c) (same_bits moved (omega (arith, count, head_count p b h (top_of b + k) (omega arith)))))
      where
        count : max (lowered p b).count (words_for (top_of (lowered p b) + (p + k))) ≡ words_for (top_of b + k)
        count =
            let end : top_of (lowered p b) + (p + k) ≡ top_of b + k = omega (arith, tail_top p b h) in
            ap₂ max (tail_count p b h) (ap words_for end)
            ∙ omega (arith, words_mono (top_of b - p) (top_of b + k) (omega arith))
