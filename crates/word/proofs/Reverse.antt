-- Reversal by swaps of neighbouring groups: one law for a swap at any mask, and the places that six swaps take each bit from, computed.
use Rattle.std.proofs.Common.{◌≡◌, ℕ, suc, ◌+◌, ◌-◌, ◌*◌, ◌/◌, ◌%◌, ◌^◌, ◌<◌, Bool, true, false, not, ◌&&◌, ◌||◌, T, eqb, leb, sym, refl, ap, ◌∙◌, ap₂, arith, eqb→eq}
use lib.Bits.{bit_and, bit_or}
use Rattle.word.specs.Sets.{choose}
use Rattle.word.specs.Places.{bit}
use Rattle.word.specs.Words.{mirrored}
use Rattle.word.proofs.Cases.{every, every_at, or-false, and-false, and-keep}
use Rattle.word.proofs.Places.{bit-and, bit-or, bit-shr, bit-shl-mod, pack_is}

-- ---- one swap

-- where a swap takes place i from
abbrev from : ℕ → ℕ → ℕ → ℕ
from m k i = choose (bit m i) (k + i) (i - k)

-- the mask has the lower group of each pair
same : Bool → Bool → Bool
same true b = b
same false b = not b

same_is : (a b : Bool) → T (same a b) → a ≡ b
unfolding same
same_is true true t = refl
same_is true false t = absurd t
same_is false true t = absurd t
same_is false false t = refl

abbrev Pairs : ℕ → ℕ → Type 0
Pairs m k = T (every (λ i. same (leb k i && bit m (i - k)) (not (bit m i))) 64)

swap : (x m k r i : ℕ) → Pairs m k → i < 64 → r ≡ bit_or (bit_and x m * 2 ^ k % 2 ^ 64) (bit_and (x / 2 ^ k) m) → bit r i ≡ bit x (from m k i)
swap x m k r i p l e =
    ap (λ (y : ℕ). bit y i) e
    ∙ bit-or (bit_and x m * 2 ^ k % 2 ^ 64) (bit_and (x / 2 ^ k) m) i
    ∙ ap₂ (λ (a b : Bool). a || b)
    (bit-shl-mod (bit_and x m) k 64 i l ∙ ap (λ (a : Bool). leb k i && a) (bit-and x m (i - k)))
    (bit-and (x / 2 ^ k) m i ∙ ap (λ (a : Bool). a && bit m i) (bit-shr x k i))
    ∙ pick (leb k i) (bit x (i - k)) (bit m (i - k)) (bit x (k + i)) (bit m i)
    (same_is (leb k i && bit m (i - k)) (not (bit m i)) (every_at (λ i. same (leb k i && bit m (i - k)) (not (bit m i))) 64 p i l))
    ∙ sym (choice (bit m i))
  where
    pick : (a x₁ m₁ x₀ m₀ : Bool) → a && m₁ ≡ not m₀ → (a && (x₁ && m₁)) || (x₀ && m₀) ≡ choose m₀ x₀ x₁
    pick true x₁ m₁ x₀ true q = ap (λ (b : Bool). (x₁ && b) || (x₀ && true)) q ∙ ap₂ (λ (b c : Bool). b || c) (and-false x₁) (and-keep x₀)
    pick true x₁ m₁ x₀ false q = ap (λ (b : Bool). (x₁ && b) || (x₀ && false)) q ∙ ap₂ (λ (b c : Bool). b || c) (and-keep x₁) (and-false x₀) ∙ or-false x₁
    pick false x₁ m₁ x₀ true q = and-keep x₀
    pick false x₁ m₁ x₀ false q = absurd (mathlib.Core.Bool.false≢true q)

    choice : (t : Bool) → bit x (choose t (k + i) (i - k)) ≡ choose t (bit x (k + i)) (bit x (i - k))
    choice true = refl
    choice false = refl

-- a swap stays within the word
within : (m k : ℕ) → T (every (λ i. leb (from m k i) 63) 64) → (i : ℕ) → i < 64 → from m k i < 64
within m k t i l = omega (arith, lib.Dec.leb→le (from m k i) 63 (every_at (λ i. leb (from m k i) 63) 64 t i l))

-- ---- six swaps

abbrev m₁ : ℕ
m₁ = 0x5555_5555_5555_5555

abbrev m₂ : ℕ
m₂ = 0x3333_3333_3333_3333

abbrev m₄ : ℕ
m₄ = 0x0f0f_0f0f_0f0f_0f0f

abbrev m₈ : ℕ
m₈ = 0x00ff_00ff_00ff_00ff

abbrev m₁₆ : ℕ
m₁₆ = 0x0000_ffff_0000_ffff

abbrev m₃₂ : ℕ
m₃₂ = 0x0000_0000_ffff_ffff

abbrev Step : ℕ → ℕ → ℕ → ℕ → Type 0
Step x m k r = r ≡ bit_or (bit_and x m * 2 ^ k % 2 ^ 64) (bit_and (x / 2 ^ k) m)

places : (i : ℕ) → i < 64 → from m₁ 1 (from m₂ 2 (from m₄ 4 (from m₈ 8 (from m₁₆ 16 (from m₃₂ 32 i))))) ≡ 63 - i
unfolding bit
places i l =
    eqb→eq (from m₁ 1 (from m₂ 2 (from m₄ 4 (from m₈ 8 (from m₁₆ 16 (from m₃₂ 32 i)))))) (63 - i)
    (every_at (λ i. eqb (from m₁ 1 (from m₂ 2 (from m₄ 4 (from m₈ 8 (from m₁₆ 16 (from m₃₂ 32 i)))))) (63 - i)) 64 tt i l)

pub reversed : (x a b c d e r : ℕ) → r < 2 ^ 64 → Step x m₁ 1 a → Step a m₂ 2 b → Step b m₄ 4 c → Step c m₈ 8 d → Step d m₁₆ 16 e → Step e m₃₂ 32 r
    → r ≡ mirrored 64 x
unfolding bit same mirrored
reversed x a b c d e r hr s₁ s₂ s₄ s₈ s₁₆ s₃₂ =
    pack_is 64 r (λ i. bit x (64 - suc i)) hr
    (λ i l.
    let i₃₂ : from m₃₂ 32 i < 64 = within m₃₂ 32 tt i l in
    let i₁₆ : from m₁₆ 16 (from m₃₂ 32 i) < 64 = within m₁₆ 16 tt (from m₃₂ 32 i) i₃₂ in
    let i₈ : from m₈ 8 (from m₁₆ 16 (from m₃₂ 32 i)) < 64 = within m₈ 8 tt (from m₁₆ 16 (from m₃₂ 32 i)) i₁₆ in
    let i₄ : from m₄ 4 (from m₈ 8 (from m₁₆ 16 (from m₃₂ 32 i))) < 64 = within m₄ 4 tt (from m₈ 8 (from m₁₆ 16 (from m₃₂ 32 i))) i₈ in
    let i₂ : from m₂ 2 (from m₄ 4 (from m₈ 8 (from m₁₆ 16 (from m₃₂ 32 i)))) < 64 = within m₂ 2 tt (from m₄ 4 (from m₈ 8 (from m₁₆ 16 (from m₃₂ 32 i)))) i₄ in
    swap e m₃₂ 32 r i tt l s₃₂
    ∙ swap d m₁₆ 16 e _ tt i₃₂ s₁₆
    ∙ swap c m₈ 8 d _ tt i₁₆ s₈
    ∙ swap b m₄ 4 c _ tt i₈ s₄
    ∙ swap a m₂ 2 b _ tt i₄ s₂
    ∙ swap x m₁ 1 a _ tt i₂ s₁
    ∙ ap (bit x) (places i l ∙ omega arith))
