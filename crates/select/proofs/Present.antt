-- The byte that has the bit of rank n, and the table's entry for it, from the sums of the bytes' counts.
use mathlib.Core.Path.{◌≡◌, refl, sym, ap, ap₂, ◌∙◌, subst}
use mathlib.Core.List.{List}
use Prim.Native.Nat.{ℕ, zero, suc, ◌+◌, ◌-◌, ◌*◌, ◌/◌, ◌%◌, ◌^◌, ◌≤◌, ◌<◌}
use native.Mathlib.Nat.{mul-suc, mul-mod_left}
use native.Mathlib.Omega.{arith}
use lib.Dec.{leb}
use lib.Pow.{shl-shr}
use lib.Bits.{bit_and, and_mask}
use lib.ListN.{get_or}
use Rattle.word.specs.Sets.{val, count_below, nth}
use Rattle.word.specs.Places.{bit}
use Rattle.word.proofs.Sets.{Nth, count-le, nth_has}
use Rattle.select.specs.Select.{byte_of, select_by}
use Rattle.select.specs.Kernels.{num, sum_below, set_in, at_most, Room, RankIn}
use Rattle.select.proofs.Digits.{DigitsBelow, num-byte, byte-num, byte_le, byte-suc, byte-zero, product}
use Rattle.select.proofs.Before.{up_to_ext, SumsPass, passes}
use Rattle.select.proofs.Table.{count-byte, in_byte, placed_in, select-placed}

count_next : (x k : ℕ) → count_below (bit x) (8 * k) + set_in x k ≡ count_below (bit x) (8 * suc k)
count_next x k = count-byte x k 8 (omega arith) ∙ ap (count_below (bit x)) (sym (mul-suc 8 k))

-- a sum from the top
up_to_top : (f : ℕ → ℕ) (k : ℕ) → sum_below f (suc k) ≡ sum_below f k + f k
unfolding sum_below
up_to_top f zero = omega arith
up_to_top f (suc k) = omega (arith, up_to_top (λ j. f (suc j)) k)

-- the bytes' counts add up to the count
up_to-count : (x k : ℕ) → sum_below (set_in x) k ≡ count_below (bit x) (8 * k)
unfolding sum_below count_below
up_to-count x zero = refl
up_to-count x (suc k) = omega (arith, up_to_top (set_in x) k, up_to-count x k, count_next x k)

-- one byte up
byte-mod : (z k : ℕ) → k < 8 → byte_of (z % 2 ^ 64) k ≡ byte_of z k
byte-mod z k h = ap (λ (y : ℕ). byte_of y k) (sym (num-byte 8 z)) ∙ byte-num 8 (byte_of z) (λ j l. byte_le z j) k h

byte_up : (f : ℕ → ℕ) (c b : ℕ) → ((k : ℕ) → k < 8 → byte_of c k ≡ sum_below f (suc k)) → b < 8 → byte_of (c * 2 ^ 8 % 2 ^ 64) b ≡ sum_below f b
unfolding sum_below
byte_up f c zero h l = byte-mod (c * 2 ^ 8) 0 l ∙ byte-zero (c * 2 ^ 8) ∙ mul-mod_left c (2 ^ 8)
byte_up f c (suc b) h l =
    byte-mod (c * 2 ^ 8) (suc b) l ∙ byte-suc (c * 2 ^ 8) b ∙ ap (λ (y : ℕ). byte_of y b) (shl-shr c 8) ∙ h b (omega arith)

-- what the code takes of a number: `(x >> (8 * b)) & 0xff`
abbrev pub taken_bytes : ℕ → ℕ → ℕ
taken_bytes x b = bit_and (x / 2 ^ (8 * b)) 0xff

taken-byte : (x b : ℕ) → taken_bytes x b ≡ byte_of x b
unfolding byte_of
taken-byte x b = and_mask (x / 2 ^ (8 * b)) 8

-- by what the code has of the bytes' counts
pub sums_made : (x counts c : ℕ) → counts ≡ num 8 (set_in x) → c ≡ (counts * 0x0101_0101_0101_0101) % 2 ^ 64
    → c ≡ (num 8 (set_in x) * 0x0101_0101_0101_0101) % 2 ^ 64
sums_made x counts c e f = f ∙ ap (λ (y : ℕ). (y * 0x0101_0101_0101_0101) % 2 ^ 64) e

module _ (x c : ℕ) (made : c ≡ (num 8 (set_in x) * 0x0101_0101_0101_0101) % 2 ^ 64) where
  sum-le : (k : ℕ) → k < 8 → sum_below (set_in x) (suc k) ≤ 64
  sum-le k l = omega (arith, up_to-count x (suc k), count-le (bit x) (8 * suc k))

  sums : (k : ℕ) → k < 8 → byte_of c k ≡ sum_below (set_in x) (suc k)
  unfolding num
  sums k l =
      let h : DigitsBelow 255 8 (λ k. sum_below (set_in x) (suc k)) = λ k l. omega (arith, sum-le k l) in
      ap (λ (y : ℕ). byte_of y k) (made ∙ product 8 (set_in x) h) ∙ byte-num 8 (λ k. sum_below (set_in x) (suc k)) h k l

  module _ (n : ℕ) (enough : n < count_below (bit x) 64) where
    pub room : Room c n
    room = record { few = omega (arith, count-le (bit x) 64); low = λ k l. omega (arith, sums k l, sum-le k l) }

    module _ (b : ℕ) (eb : b ≡ sum_below (at_most c n) 8) where
      -- the set bits below byte k
      abbrev E : ℕ → ℕ
      E k = count_below (bit x) (8 * k)

      found : SumsPass E n 8 b
      found =
          subst (SumsPass E n 8)
          (sym (eb ∙ up_to_ext 8 (at_most c n) (λ k. val (leb (E (suc k)) n)) (λ k l. ap (λ (y : ℕ). val (leb y n)) (sums k l ∙ up_to-count x (suc k)))))
          (passes 8 E n (λ k. omega (arith, count_next x k)) (omega (arith, count-le (bit x) 0)) enough)

      under : taken_bytes (c * 2 ^ 8 % 2 ^ 64) b ≡ E b
      under = taken-byte (c * 2 ^ 8 % 2 ^ 64) b ∙ byte_up (set_in x) c b sums found.within ∙ up_to-count x b

      pub rank_in : RankIn x n b (taken_bytes (c * 2 ^ 8 % 2 ^ 64) b)
      rank_in =
          let f : SumsPass E n 8 b = found in
          let d : taken_bytes (c * 2 ^ 8 % 2 ^ 64) b ≡ E b = under in
          record {
            within = f.within;
            counted = d;
            from = omega (arith, f.from);
            to = omega (arith, f.to, count_next x b);
            few = omega (arith, f.to, count_next x b, count-le (bit (byte_of x b)) 8);
          }

-- the table's entry for the byte that has the bit, at its rank there
pub placed : (table : List ℕ) (x n b below : ℕ) → n < count_below (bit x) 64 → RankIn x n b below
    → 8 * b + get_or table (taken_bytes x b * 8 + (n - below)) 0 ≡ select_by table x n
placed table x n b below enough k =
    let p : ℕ = nth (bit x) n 64 64 in
    let r : Nth (bit x) n 64 p = nth_has (bit x) n 64 64 enough in
    ap₂ (λ (y z : ℕ). 8 * b + get_or table (y * 8 + (n - z)) 0) (taken-byte x b) k.counted
    ∙ ap (placed_in table x n) (sym (in_byte x n p b r (omega (arith, k.counted, k.from)) (omega (arith, k.counted, k.to, count_next x b))))
    ∙ sym (select-placed table x n p r)
