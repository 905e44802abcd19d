-- The promises of specs/Promises.
use mathlib.Core.Path.{◌≡◌, sym, ap, ap₂, ◌∙◌, subst}
use Prim.Native.Nat.{ℕ, suc, ◌+◌, ◌-◌, ◌*◌, ◌/◌, ◌%◌, ◌<◌}
use native.Mathlib.Omega.{arith}
use lib.ListN.{get_or}
use Rattle.word.specs.Sets.{count_below, nth, Counts}
use Rattle.word.specs.Places.{bit}
use Rattle.word.proofs.Places.{bits_ext}
use Rattle.word.proofs.Sets.{Nth, count_add, counts_is, nth_has, nth_none}
use Rattle.word.proofs.Lists.{length_tab}
use Rattle.select.specs.Select.{select_in, select_table, byte_of}
use Rattle.select.specs.Promises.{TableRule, SelectsRank, SelectWordMeans, SelectByMeans}
use Rattle.select.specs.Promises.{SelectPortableMeans}
use Rattle.select.proofs.Digits.{byte_le}
use Rattle.select.proofs.Table.{table_entry, bit_byte, in_byte, placed_in, select_none, select-placed, select_by-table}

selects : (w out x r : ℕ) (count : ℕ → ℕ) → Counts (bit x) count → SelectsRank w out x r (nth (bit x) r out w) count
selects w out x r count c = record {
  one = λ h. let n = nth_has (bit x) r out w (omega (arith, all)) in (n.within, n.here, counts_is (bit x) count c _ ∙ n.under);
  none = λ h. nth_none (bit x) r out w (omega (arith, all));
}
  where
    all : count w ≡ count_below (bit x) w
    all = counts_is (bit x) count c w

pub select-word_means : SelectWordMeans
select-word_means = selects 64 64

pub table_rule : TableRule
unfolding select_table
table_rule = record {
  size = length_tab 0 2048 (λ k. select_in (k / 8) (k % 8));
  entry = λ byte rank hb hr count c. subst (λ (p : ℕ). SelectsRank 8 0 byte rank p count) (sym (table_entry byte rank hb hr)) (selects 8 0 byte rank count c);
}

pub selects_by : SelectByMeans
selects_by table x r count c = record {
  one = λ b y l from to small same.
      let all = counts_is (bit x) count c in
      let n : Nth (bit x) r 64 (nth (bit x) r 64 64) =
      nth_has (bit x) r 64 64 (omega (arith, all (8 * b + 8), count_add (bit x) (8 * b + 8) (56 - 8 * b), whole b l)) in
      let e : nth (bit x) r 64 64 / 8 ≡ b = in_byte x r _ b n (omega (arith, all (8 * b))) (omega (arith, all (8 * b + 8), ap (count_below (bit x)) (next b))) in
      let byte : byte_of x b ≡ y = bits_ext 8 (byte_of x b) y (omega (arith, byte_le x b)) small (λ j h. bit_byte x b j h ∙ sym (same j h)) in
      select-placed table x r _ n
      ∙ ap (placed_in table x r) e
      ∙ ap₂ (λ (v k : ℕ). 8 * b + get_or table (v * 8 + (r - k)) 0) byte (sym (all (8 * b)));
  none = λ h. select_none table x r (omega (arith, counts_is (bit x) count c 64));
}
  where
    whole : (b : ℕ) → b < 8 → count_below (bit x) (8 * b + 8 + (56 - 8 * b)) ≡ count_below (bit x) 64
    whole b l = let e : 8 * b + 8 + (56 - 8 * b) ≡ 64 = omega arith in ap (count_below (bit x)) e

    next : (b : ℕ) → 8 * b + 8 ≡ 8 * suc b
    next b = omega arith

pub selects_rank : SelectPortableMeans
selects_rank x r count c = subst (λ (p : ℕ). SelectsRank 64 64 x r p count) (sym (select_by-table x r)) (select-word_means x r count c)
