-- What an edit means of a bitmap determines the result: the members, number by number, and the count.
use Prim.Native.Nat.{ℕ, ◌*◌}
use mathlib.Core.Path.{◌≡◌, sym, ◌∙◌}
use mathlib.Core.Bool.{true, false}
use Rattle.word.proofs.Cases.{by_eq}
use Rattle.storage.specs.Stores.{Bits, Bounded}
use Rattle.storage.proofs.Once.{same_bits, one_bit}
use Rattle.bitwise.proofs.Once.{one_reversed}
use Rattle.shifts.proofs.Once.{one-turned-left, one-turned_right}
use Rattle.bitmaps.specs.Promises.{WithRegion, WithField}
use Rattle.bitmaps.proofs.Once.{one-region, one_field}
use Rattle.shapes.specs.Promises.{FlippedFrom}
use Rattle.shapes.proofs.Once.{one-flipped, one_raised, one-lowered, one_resized}
use Rattle.gap.proofs.Once.{one_opened, one-closed}
use Rattle.sheet.specs.Promises.{Does}
use Rattle.sheet.specs.declared.Edit.{Edit}
use Rattle.sheet.specs.declared.Edit.TheVariants.{Set, Unset, SetRegion, SetField, Shift, Rotate, Resize, Reverse, ToggleRegion, Open, Close}

module _ (b s t : Bits) where
  -- of no numbers nothing changes
  one-or_none : (k : ℕ) (rule : Bits → Type 0) → ((k ≡ 0 → ⊥) → rule s → rule t → s ≡ t) → (k ≡ 0 → s ≡ b) × ((k ≡ 0 → ⊥) → rule s)
      → (k ≡ 0 → t ≡ b) × ((k ≡ 0 → ⊥) → rule t) → s ≡ t
  one-or_none k rule f p q = by_eq k 0 (λ z. p.0 z ∙ sym (q.0 z)) (λ n. f n (p.1 n) (q.1 n))

pub means_one : (e : Edit) (b s t : Bits) → Bounded b → Does e b s → Does e b t → s ≡ t
means_one (Set p) b s t h m n = same_bits (one_bit b s t p true m.here n.here m.others n.others) (m.count ∙ sym n.count)
means_one (Unset p) b s t h m n = same_bits (one_bit b s t p false m.here n.here m.others n.others) (m.count ∙ sym n.count)
means_one (SetRegion v p k) b s t h m n = one-or_none b s t k (λ x. WithRegion p v k b x) (one-region b s t p v k) m n
means_one (SetField p w v) b s t h m n = one-or_none b s t w (λ x. WithField p v w b x) (one_field b s t p v w) m n
means_one (Shift false k) b s t h m n = one_raised b s t k h m n
means_one (Shift true k) b s t h m n = one-lowered b s t k m n
means_one (Rotate false k) b s t h m n = same_bits (one-turned-left k (64 * b.count) b.members s.members t.members m.1 n.1) (m.0 ∙ sym n.0)
means_one (Rotate true k) b s t h m n = same_bits (one-turned_right k (64 * b.count) b.members s.members t.members m.1 n.1) (m.0 ∙ sym n.0)
means_one (Resize k) b s t h m n = one_resized b s t k m n
means_one Reverse b s t h m n = one_reversed b s t m n
means_one (ToggleRegion p k) b s t h m n = one-or_none b s t k (λ x. FlippedFrom p k b x) (one-flipped b s t p k) m n
means_one (Open p k) b s t h m n = one_opened p k b s t m n
means_one (Close p k) b s t h m n = one-closed p k b s t m n
