-- The laws of the table of places, and of the choice by a table.
use mathlib.Core.Path.{◌≡◌, sym, ap, ap₂, ◌∙◌}
use mathlib.Core.Bool.{Bool}
use mathlib.Core.List.{List}
use Prim.Native.Nat.{ℕ, suc, ◌+◌, ◌-◌, ◌*◌, ◌/◌, ◌%◌, ◌^◌, ◌≤◌, ◌<◌}
use native.Mathlib.Omega.{arith}
use borrow.Author.Tests.{lt-ltb}
use lib.Dec.{ltb}
use lib.Arith.{digits_div, digits_mod}
use lib.ListN.{get_or}
use Rattle.word.specs.Sets.{choose, count_below, nth}
use Rattle.word.specs.Places.{bit}
use Rattle.word.proofs.Cases.{by_lt}
use Rattle.word.proofs.Places.{bit-mod, bit-shr}
use Rattle.word.proofs.Sets.{Nth, count-le, count_ext, count_add, count-more, nth_is, nth_none, nth_has}
use Rattle.word.proofs.Lists.{tab_at}
use Rattle.select.specs.Select.{select_in, select_table, byte_of, select_by}
use Rattle.select.proofs.Digits.{byte_le}

pub table_entry : (byte rank : ℕ) → byte < 256 → rank < 8 → get_or select_table (byte * 8 + rank) 0 ≡ select_in byte rank
unfolding select_table
table_entry byte rank hb hr =
    tab_at 2048 (λ k. select_in (k / 8) (k % 8)) (byte * 8 + rank) (omega arith)
    ∙ ap₂ select_in (digits_div byte hr) (digits_mod byte hr)

-- ---- the set bits of a byte are the word's from 8 * b on

pub bit_byte : (x b j : ℕ) → j < 8 → bit (byte_of x b) j ≡ bit x (8 * b + j)
unfolding byte_of
bit_byte x b j h = bit-mod (x / 2 ^ (8 * b)) 8 j h ∙ bit-shr x (8 * b) j

pub count-byte : (x b q : ℕ) → q ≤ 8 → count_below (bit x) (8 * b) + count_below (bit (byte_of x b)) q ≡ count_below (bit x) (8 * b + q)
count-byte x b q h =
    ap (λ (y : ℕ). count_below (bit x) (8 * b) + y)
    (count_ext (bit (byte_of x b)) (λ j. bit x (8 * b + j)) q (λ j l. bit_byte x b j (omega arith)))
    ∙ sym (count_add (bit x) (8 * b) q)

-- the bit of rank r is in the byte where the count passes r
pub in_byte : (x r p b : ℕ) → Nth (bit x) r 64 p → count_below (bit x) (8 * b) ≤ r → r < count_below (bit x) (8 * suc b) → p / 8 ≡ b
in_byte x r p b n from to =
    let low : 8 * b ≤ p = by_lt p (8 * b) (λ l. absurd (omega (arith, count-more (bit x) p (8 * b) l n.here, n.under))) (λ l. l) in
    let high : p < 8 * suc b =
    by_lt p (8 * suc b) (λ l. l)
    (λ l.
    let e : 8 * suc b + (p - 8 * suc b) ≡ p = omega arith in
    absurd (omega (arith, count_add (bit x) (8 * suc b) (p - 8 * suc b), ap (count_below (bit x)) e, n.under))) in
    omega arith

-- ---- the choice

-- the place that the table gives in byte b
abbrev pub placed_in : List ℕ → ℕ → ℕ → ℕ → ℕ
placed_in table x r b = 8 * b + get_or table (byte_of x b * 8 + (r - count_below (bit x) (8 * b))) 0

pub select_none : (table : List ℕ) (x r : ℕ) → count_below (bit x) 64 ≤ r → select_by table x r ≡ 64
unfolding select_by
select_none table x r h = ap (λ (p : ℕ). choose (ltb p 64) (placed_in table x r (p / 8)) 64) (nth_none (bit x) r 64 64 h)

pub select-placed : (table : List ℕ) (x r p : ℕ) → Nth (bit x) r 64 p → select_by table x r ≡ placed_in table x r (p / 8)
unfolding select_by
select-placed table x r p n =
    ap (λ (q : ℕ). choose (ltb q 64) (placed_in table x r (q / 8)) 64) (nth_is (bit x) r 64 64 p n)
    ∙ ap (λ (t : Bool). choose t (placed_in table x r (p / 8)) 64) (lt-ltb p 64 n.within)

-- by the table of the rule it is the bit's own place
placed_is : (x r p : ℕ) → Nth (bit x) r 64 p → placed_in select_table x r (p / 8) ≡ p
placed_is x r p n =
    let b : ℕ = p / 8 in
    let j : ℕ = p % 8 in
    let e : 8 * b + j ≡ p = omega arith in
    let l : j < 8 = omega arith in
    let rank : r - count_below (bit x) (8 * b) ≡ count_below (bit (byte_of x b)) j =
    omega (arith, count-byte x b j (omega arith), ap (count_below (bit x)) e, n.under) in
    let at : Nth (bit (byte_of x b)) (r - count_below (bit x) (8 * b)) 8 j =
    record { within = l; here = bit_byte x b j l ∙ ap (bit x) e ∙ n.here; under = sym rank } in
    ap (λ (y : ℕ). 8 * b + y)
    (table_entry (byte_of x b) (r - count_below (bit x) (8 * b)) (omega (arith, byte_le x b)) (omega (arith, count-le (bit (byte_of x b)) j))
    ∙ nth_is (bit (byte_of x b)) (r - count_below (bit x) (8 * b)) _ 8 j at)
    ∙ e

pub select_by-table : (x r : ℕ) → select_by select_table x r ≡ nth (bit x) r 64 64
select_by-table x r =
    by_lt r (count_below (bit x) 64)
    (λ h.
    let p : ℕ = nth (bit x) r 64 64 in
    let n : Nth (bit x) r 64 p = nth_has (bit x) r 64 64 h in
    select-placed select_table x r p n ∙ placed_is x r p n)
    (λ h. select_none select_table x r h ∙ sym (nth_none (bit x) r 64 64 h))

-- the same of an answer by a table that equals the rule's
pub select_by_rule : (table : List ℕ) (x n r : ℕ) → r ≡ select_by table x n → table ≡ select_table → r ≡ nth (bit x) n 64 64
select_by_rule table x n r h e = h ∙ ap (λ (t : List ℕ). select_by t x n) e ∙ select_by-table x n
