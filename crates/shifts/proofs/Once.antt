-- What is promised of each call determines its answer: the result, number by number, and its count; and no two conditions of refusal hold at once.
use mathlib.Core.Path.{◌≡◌, sym, ap, ◌∙◌}
use mathlib.Core.Bool.{Bool, true}
use Prim.Native.Nat.{ℕ, ◌*◌}
use native.Mathlib.Omega.{arith}
use Rattle.word.proofs.Cases.{by_lt}
use Rattle.storage.specs.Stores.{Bounded, Op}
use Rattle.storage.proofs.Once.{same_bits, same_set, once_never}
use Rattle.storage.proofs.Promises.{once_exact}
use Rattle.shifts.specs.Shifts.{shifting_left, shifting_right, rotating_left, rotating_right}
use Rattle.shifts.specs.Promises.{Moves, MovesExactly, ShiftedLeft, ShiftedRight, RotatedLeft, RotatedRight, CallsExact}
use Rattle.shifts.proofs.Promises.{shifts_left, shifts_right, rotates_left, rotates_right}

module _ (k len : ℕ) (old f g : ℕ → Bool) where
  one_left : ShiftedLeft k len old f → ShiftedLeft k len old g → (m : ℕ) → f m ≡ g m
  one_left p q = same_set f g (go f g p q) (go g f q p)
    where
      go : (f g : ℕ → Bool) → ShiftedLeft k len old f → ShiftedLeft k len old g → (m : ℕ) → f m ≡ true → g m ≡ true
      go f g p q m y = let (i, x, e, l) = p.comes m y in ap g (sym e) ∙ q.goes i x (omega arith)

  one_right : ShiftedRight k len old f → ShiftedRight k len old g → (m : ℕ) → f m ≡ g m
  one_right p q = same_set f g (go f g p q) (go g f q p)
    where
      go : (f g : ℕ → Bool) → ShiftedRight k len old f → ShiftedRight k len old g → (m : ℕ) → f m ≡ true → g m ≡ true
      go f g p q m y = let (i, x, h, e, l) = p.comes m y in ap g (sym e) ∙ q.goes i x h

  pub one-turned-left : RotatedLeft k len old f → RotatedLeft k len old g → (m : ℕ) → f m ≡ g m
  one-turned-left p q m =
      by_lt m len
      (λ l. let (i, u, r) = p.comes m l in ap f (sym r) ∙ p.goes i u ∙ sym (q.goes i u) ∙ ap g r)
      (λ l. p.past m l ∙ sym (q.past m l))

  pub one-turned_right : RotatedRight k len old f → RotatedRight k len old g → (m : ℕ) → f m ≡ g m
  one-turned_right p q m = by_lt m len (λ l. p.goes m l ∙ sym (q.goes m l)) (λ l. p.past m l ∙ sym (q.past m l))

moves_exactly : (op : Op) (rule : ℕ → (ℕ → Bool) → (ℕ → Bool) → Type 0) → Moves op rule
    → ((len : ℕ) (old f g : ℕ → Bool) → rule len old f → rule len old g → (m : ℕ) → f m ≡ g m) → MovesExactly op rule
moves_exactly op rule moves one =
    once_exact op _ _ moves
    (λ c b h l k. once_never c b (λ s. Bounded b → (s.count ≡ b.count) × rule (64 * b.count) b.members s.members)
    (λ s t p q. same_bits (one (64 * b.count) b.members s.members t.members (p k).1 (q k).1) ((p k).0 ∙ sym (q k).0)))

pub calls_exact : CallsExact
calls_exact = record {
  shift_left = λ k. moves_exactly (shifting_left k) (ShiftedLeft k) (shifts_left k) (one_left k);
  shift_right = λ k. moves_exactly (shifting_right k) (ShiftedRight k) (shifts_right k) (one_right k);
  rotate_left = λ k. moves_exactly (rotating_left k) (RotatedLeft k) (rotates_left k) (one-turned-left k);
  rotate_right = λ k. moves_exactly (rotating_right k) (RotatedRight k) (rotates_right k) (one-turned_right k);
}
