-- Words joined, or compared, give 0 only where each is 0, or where the two are equal.
use Rattle.std.proofs.Common.{◌≡◌, ℕ, ◌+◌, arith}
use lib.Bits.{bit_and, bit_or, bit_xor, and_le_l, and_le_r, or_add_and, xor_add_and}

pub or_none : (a b : ℕ) → bit_or a b ≡ 0 → (a ≡ 0) × (b ≡ 0)
or_none a b e =
    let s : bit_or a b + bit_and a b ≡ a + b = or_add_and a b in
    (omega (arith, and_le_l a b, and_le_r a b), omega (arith, and_le_l a b, and_le_r a b))

pub xor_none : (a b : ℕ) → bit_xor a b ≡ 0 → a ≡ b
xor_none a b e = omega (arith, xor_add_and a b, and_le_l a b, and_le_r a b)
