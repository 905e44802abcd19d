-- What is promised of each call determines its answer: the result, number by number, and its count; and no two conditions of refusal hold at once.
use mathlib.Core.Path.{◌≡◌, sym, ◌∙◌}
use mathlib.Core.Bool.{not}
use Prim.Native.Nat.{ℕ, ◌-◌, ◌*◌, ◌≤◌, ◌<◌}
use native.Mathlib.Omega.{arith}
use Rattle.word.proofs.Cases.{by_lt}
use Rattle.storage.specs.Stores.{Bits}
use Rattle.storage.specs.Promises.{OneEnd}
use Rattle.storage.proofs.Once.{same_bits, one_bit, once_never}
use Rattle.storage.proofs.Promises.{once_exact}
use Rattle.bitwise.specs.Bitwise.{toggling_inside, inverting, reversing}
use Rattle.bitwise.specs.Promises.{Toggled, Inverted, Reversed, CallsExact}
use Rattle.bitwise.proofs.Promises.{toggles_inside, inverts, reverses}

one_inverted : (b s t : Bits) → Inverted b s → Inverted b t → s ≡ t
one_inverted b s t p q =
    same_bits (λ i. by_lt i (64 * b.count) (λ l. p.below i l ∙ sym (q.below i l)) (λ l. p.past i l ∙ sym (q.past i l))) (p.count ∙ sym q.count)

pub one_reversed : (b s t : Bits) → Reversed b s → Reversed b t → s ≡ t
one_reversed b s t p q =
    same_bits
    (λ i. by_lt i (64 * b.count)
    (λ l. let j : ℕ = 64 * b.count - 1 - i in p.mirror i j (omega arith) ∙ sym (q.mirror i j (omega arith)))
    (λ l. p.past i l ∙ sym (q.past i l)))
    (p.count ∙ sym q.count)

toggle_once : (i c : ℕ) (b : Bits) → OneEnd c (λ s. (i < 64 * b.count) × Toggled i b s) (λ k. (k ≡ 5) × (64 * b.count ≤ i))
toggle_once i c b = record {
  result = λ s t p q. one_toggled s t p.1 q.1;
  number = λ k l p q. p.0 ∙ sym q.0;
  apart = λ s k p l q. absurd (omega (arith, p.0, q.1));
}
  where
    one_toggled : (s t : Bits) → Toggled i b s → Toggled i b t → s ≡ t
    one_toggled s t p q =
        same_bits (one_bit b s t i (not (b.members i)) p.flipped q.flipped p.others q.others) (p.count ∙ sym q.count)

pub calls_exact : CallsExact
calls_exact = record {
  invert = once_exact inverting _ _ inverts (λ c b h l k. once_never c b (Inverted b) (one_inverted b));
  toggle = λ i. once_exact (toggling_inside i) _ _ (toggles_inside i) (λ c b h l k. toggle_once i c b);
  reverse = once_exact reversing _ _ reverses (λ c b h l k. once_never c b (Reversed b) (one_reversed b));
}
