-- What is promised of `set_field_strict` determines its answer: the result, number by number, and its count; and no two conditions of refusal hold at once.
use mathlib.Core.Path.{◌≡◌, sym, ap, ◌∙◌}
use mathlib.Core.Logic.{inl, inr}
use Prim.Native.Nat.{ℕ, ◌+◌, ◌-◌, ◌*◌, ◌≤◌, ◌<◌}
use native.Mathlib.Omega.{arith}
use Rattle.storage.specs.Stores.{Bits}
use Rattle.storage.specs.Promises.{OneEnd}
use Rattle.storage.proofs.Once.{same_bits, by_region}
use Rattle.storage.proofs.Promises.{once_exact}
use Rattle.slice.specs.Slices.{setting_field_inside}
use Rattle.slice.specs.Promises.{FieldWritten, FieldRefused, SetFieldStrictExact}
use Rattle.slice.proofs.Promises.{set_field_strict}

one_written : (i value width : ℕ) (b s t : Bits) → FieldWritten i value width b s → FieldWritten i value width b t → s ≡ t
one_written i value width b s t p q =
    same_bits
    (by_region i width s.members t.members (λ j l. p.below j l ∙ sym (q.below j l)) here (λ j l. p.above j l ∙ sym (q.above j l)))
    (p.count ∙ sym q.count)
  where
    here : (j : ℕ) → i ≤ j → j < i + width → s.members j ≡ t.members j
    here j l m =
        ap s.members (omega arith) ∙ p.field (j - i) (omega arith) ∙ sym (q.field (j - i) (omega arith)) ∙ ap t.members (omega arith)

strict_once : (i value width c : ℕ) (b : Bits) → OneEnd c (FieldWritten i value width b) (FieldRefused i width b)
strict_once i value width c b = record { result = one_written i value width b; number = number; apart = apart }
  where
    number : (k l : ℕ) → FieldRefused i width b k → FieldRefused i width b l → k ≡ l
    number k l (inl p) (inl q) = p.0 ∙ sym q.0
    number k l (inl p) (inr q) = absurd (omega (arith, p.1, q.2))
    number k l (inr p) (inl q) = absurd (omega (arith, p.2, q.1))
    number k l (inr p) (inr q) = p.0 ∙ sym q.0

    past : (s : Bits) → FieldWritten i value width b s → 0 < width → i + width ≤ 64 * b.count
    past s p h = elim p.inside [ inl z ↦ absurd (omega arith) | inr l ↦ l ]

    apart : (s : Bits) (k : ℕ) → FieldWritten i value width b s → s.count ≤ c → FieldRefused i width b k → ⊥
    apart s k p l (inl q) = absurd (omega (arith, p.wide, q.1))
    apart s k p l (inr q) = absurd (omega (arith, q.3, past s p q.1))

pub set_field_strict_exact : SetFieldStrictExact
set_field_strict_exact i value width = once_exact (setting_field_inside i value width) _ _ (set_field_strict i value width) (λ c b h l k. strict_once i value width c b)
