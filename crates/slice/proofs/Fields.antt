-- One bit, and a field read from two neighbouring words.
use mathlib.Core.Path.{◌≡◌, refl, sym, ap, ap₂, ◌∙◌}
use mathlib.Core.Bool.{Bool, not, ◌&&◌}
use mathlib.Core.List.{List}
use Prim.Native.Nat.{ℕ, zero, suc, ◌+◌, ◌-◌, ◌*◌, ◌/◌, ◌%◌, ◌^◌, ◌≤◌, ◌<◌}
use native.Mathlib.Nat.{lt_of_lt_of_le}
use native.Mathlib.Omega.{arith}
use lib.ListN.{length, get_or, take}
use lib.Bits.{bit_and, and_mask, and_lt}
use lib.Pow.{pow_mono}
use lib.Dec.{eqb}
use borrow.Author.Tests.{lt-ltb, le-ltb, ne_eqb}
use Rattle.word.specs.Sets.{choose}
use Rattle.word.specs.Places.{is_one, bit, pack, member}
use Rattle.word.specs.Words.{low_mask, funneled, pair_bit}
use Rattle.word.specs.Promises.{FromPlace}
use Rattle.word.proofs.Cases.{by_lt, and-false, and-keep}
use Rattle.word.proofs.Places.{bit-and, bit_past, bits_ext, pack-lt, bit-pack}
use Rattle.word.proofs.Words.{bit-low_mask, low_mask-lt, from_place}
use Rattle.word.proofs.Lists.{Fit, fit_part, member-at}
use Rattle.storage.specs.Stores.{Bits, view}
use Rattle.storage.specs.declared.Refusal.TheVariants.{WidthOver}
use Rattle.storage.proofs.Views.{view_in, view-part}
use Rattle.slice.specs.Slices.{field_at}
use Rattle.std.specs.Prelude.{Ok, Err}

-- ---- one bit

-- `(x >> r) & 1 != 0`
pub test_bit : (x r : ℕ) → not (eqb (bit_and (x / 2 ^ r) 1) 0) ≡ bit x r
unfolding bit
test_bit x r = ap (λ (y : ℕ). not (eqb y 0)) (and_mask (x / 2 ^ r) 1) ∙ digit (x / 2 ^ r % 2)
  where
    digit : (d : ℕ) → not (eqb d 0) ≡ is_one d
    digit zero = refl
    digit (suc d) = ap not (ne_eqb (suc d) 0 (omega arith))

pub bit_of_lem : (ws : List ℕ) (n i : ℕ) → i / 64 < n → not (eqb (bit_and (get_or ws (i / 64) 0 / 2 ^ (i % 64)) 1) 0) ≡ (view ws n).members i
bit_of_lem ws n i h =
    let e : 64 * (i / 64) + i % 64 ≡ i = omega arith in
    test_bit (get_or ws (i / 64) 0) (i % 64) ∙ sym (view_in ws n (i / 64) (i % 64) h (omega arith)) ∙ ap (view ws n).members e

-- ---- a field read

-- digit p of a word and of the next one above it
pair-member : (ws : List ℕ) (k p : ℕ) → p < 128 → pair_bit 64 (get_or ws k 0) (get_or ws (k + 1) 0) p ≡ member ws (64 * k + p)
unfolding pair_bit
pair-member ws k p h =
    by_lt p 64
    (λ l. ap (λ (t : Bool). choose t (bit (get_or ws k 0) p) (bit (get_or ws (k + 1) 0) (p - 64))) (lt-ltb p 64 l) ∙ sym (member-at ws k p l))
    (λ l.
    let e : 64 * (k + 1) + (p - 64) ≡ 64 * k + p = omega arith in
    ap (λ (t : Bool). choose t (bit (get_or ws k 0) p) (bit (get_or ws (k + 1) 0) (p - 64))) (le-ltb p 64 l)
    ∙ sym (member-at ws (k + 1) (p - 64) (omega arith)) ∙ ap (member ws) e)

-- the low digits that a mask keeps
pub low_digits : (x width : ℕ) (p : ℕ → Bool) → width ≤ 64 → x < 2 ^ 64 → ((j : ℕ) → j < 64 → bit x j ≡ p j) → bit_and x (low_mask 64 width) ≡ pack width p
low_digits x width p h lt f =
    bits_ext 64 (bit_and x (low_mask 64 width)) (pack width p) (and_lt 64 x (low_mask 64 width) lt (low_mask-lt 64 width))
    (lt_of_lt_of_le (pack-lt width p) (pow_mono h))
    (λ j l.
    bit-and x (low_mask 64 width) j ∙ ap₂ (λ (a b : Bool). a && b) (f j l) (bit-low_mask 64 width j l)
    ∙ by_lt j width
    (λ m. ap (λ (b : Bool). p j && b) (lt-ltb j width m) ∙ and-keep (p j) ∙ sym (bit-pack width p j m))
    (λ m. ap (λ (b : Bool). p j && b) (le-ltb j width m) ∙ and-false (p j) ∙ sym (bit_past (pack width p) width j (pack-lt width p) m)))

pub field-wide : (i width : ℕ) (b : Bits) → 64 < width → Err WidthOver ≡ field_at i width b
unfolding field_at
field-wide i width b h = sym (ap (λ (t : Bool). choose t (Err WidthOver) (Ok (pack width (λ j. b.members (i + j))))) (lt-ltb 64 width h))

pub field_is : (ws : List ℕ) (n i width lo hi x mask : ℕ) → Fit ws → n ≤ length ws → width ≤ 64
    → lo ≡ get_or (take n ws) (i / 64) 0 → hi ≡ get_or (take n ws) (i / 64 + 1) 0 → x ≡ funneled 64 lo hi (i % 64) (64 - i % 64) → mask ≡ low_mask 64 width
    → Ok (bit_and x mask) ≡ field_at i width (view ws n)
unfolding field_at
field_is ws n i width lo hi x mask f h wide el eh ex em =
    ap Ok
    (ap₂ bit_and (ex ∙ ap₂ (λ (a b : ℕ). funneled 64 a b (i % 64) (64 - i % 64)) el eh) em
    ∙ low_digits y width (λ j. (view ws n).members (i + j)) wide at.fits digit)
    ∙ sym (ap (λ (t : Bool). choose t (Err WidthOver) (Ok (pack width (λ j. (view ws n).members (i + j))))) (le-ltb 64 width wide))
  where
    part : List ℕ
    part = take n ws

    y : ℕ
    y = funneled 64 (get_or part (i / 64) 0) (get_or part (i / 64 + 1) 0) (i % 64) (64 - i % 64)

    at : FromPlace 64 (get_or part (i / 64) 0) (get_or part (i / 64 + 1) 0) (i % 64) y
    at = from_place 64 (get_or part (i / 64) 0) (get_or part (i / 64 + 1) 0) (i % 64) (64 - i % 64) (fit_part ws n f h (i / 64)) (omega arith)

    digit : (j : ℕ) → j < 64 → bit y j ≡ (view ws n).members (i + j)
    digit j l =
        let e : 64 * (i / 64) + (i % 64 + j) ≡ i + j = omega arith in
        at.at j l ∙ pair-member part (i / 64) (i % 64 + j) (omega arith) ∙ ap (member part) e ∙ sym (view-part ws n (i + j) h)
