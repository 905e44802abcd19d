-- The promises of specs/Promises.
use mathlib.Core.Path.{◌≡◌, refl, sym, ap₂, ◌∙◌}
use mathlib.Core.Bool.{Bool, true, false, true≢false}
use mathlib.Core.List.{List}
use mathlib.Core.Logic.{◌↔◌, ◌⊎◌, inl, inr}
use Prim.Native.Nat.{ℕ, ◌+◌, ◌≤◌, ◌<◌, min, max}
use native.Mathlib.Omega.{arith}
use lib.ListN.{length, get_or}
use Rattle.word.specs.Places.{bit, member, tab_from}
use Rattle.word.proofs.Cases.{by_lt}
use Rattle.word.proofs.Lists.{past, length_tab, tab_at}
use Rattle.pairs.specs.Pairs.{table_of, word_by, words_by, end_by, nonzero_from, zero_eights}
use Rattle.pairs.specs.Promises.{ComesIn, TableMeans, MakesWord, MakesSet, NoneFrom, EndMeans, EightsMean}
use Rattle.pairs.specs.declared.SetOp.{SetOp}
use Rattle.pairs.specs.declared.SetOp.TheVariants.{And, AndNot, Or, Xor}
use Rattle.pairs.proofs.Tables.{by_lt_word, by_bit, by_length, by_fit, by_at, by_member}
use Rattle.pairs.proofs.Scans.{past_end, from_first, at_first, eights_zero}

-- ---- the table, line by line

and-table : (p q : Bool) → (table_of And p q ≡ true) ↔ ((p ≡ true) × (q ≡ true))
and-table true q = ((λ e. (refl, e)), (λ c. c.1))
and-table false q = ((λ e. absurd (true≢false (sym e))), (λ c. c.0))

andnot-table : (p q : Bool) → (table_of AndNot p q ≡ true) ↔ ((p ≡ true) × (q ≡ false))
andnot-table true true = ((λ e. absurd (true≢false (sym e))), (λ c. sym c.1))
andnot-table true false = ((λ e. (refl, refl)), (λ c. refl))
andnot-table false q = ((λ e. absurd (true≢false (sym e))), (λ c. c.0))

or-table : (p q : Bool) → (table_of Or p q ≡ true) ↔ ((p ≡ true) ⊎ (q ≡ true))
or-table true q = ((λ e. inl refl), (λ c. refl))
or-table false q = ((λ e. inr e), back)
  where
    back : (false ≡ true) ⊎ (q ≡ true) → q ≡ true
    back (inl e) = absurd (true≢false (sym e))
    back (inr e) = e

xor-table : (p q : Bool) → (table_of Xor p q ≡ true) ↔ (((p ≡ true) × (q ≡ false)) ⊎ ((p ≡ false) × (q ≡ true)))
xor-table p q = (there p q, back p q)
  where
    there : (p q : Bool) → table_of Xor p q ≡ true → ((p ≡ true) × (q ≡ false)) ⊎ ((p ≡ false) × (q ≡ true))
    there true true e = absurd (true≢false (sym e))
    there true false e = inl (refl, refl)
    there false q e = inr (refl, e)

    back : (p q : Bool) → ((p ≡ true) × (q ≡ false)) ⊎ ((p ≡ false) × (q ≡ true)) → table_of Xor p q ≡ true
    back true q (inl (e, f)) = cc
    back false q (inl (e, f)) = absurd (true≢false (sym e))
    back true q (inr (e, f)) = absurd (true≢false e)
    back false q (inr (e, f)) = f

pub table_means : TableMeans
table_means And = and-table
table_means AndNot = andnot-table
table_means Or = or-table
table_means Xor = xor-table

-- ---- what is by the table at a place

pub by_table : (op : SetOp) (p q r : Bool) → r ≡ table_of op p q → (r ≡ true) ↔ ComesIn op p q
by_table op p q r e = ((λ a. (table_means op p q).0 (sym e ∙ a)), (λ a. e ∙ (table_means op p q).1 a))

pub makes_word : MakesWord
makes_word = record {
  fits = by_lt_word;
  places = λ op x y j l. by_table op (bit x j) (bit y j) (bit (word_by op x y) j) (by_bit op x y j l);
}

pub makes_set : MakesSet
makes_set = record {
  long = by_length;
  fits = by_fit;
  members = λ op xs ys i. by_table op (member xs i) (member ys i) (member (words_by op xs ys) i) (by_member op xs ys i);
}

-- ---- the end: below it some lists make a word that is not 0

repeated : ℕ → ℕ → List ℕ
unfolding tab_from
repeated l x = tab_from 0 l (λ k. x)

length_repeated : (l x : ℕ) → length (repeated l x) ≡ l
unfolding repeated
length_repeated l x = length_tab 0 l (λ k. x)

at_repeated : (l x k : ℕ) → k < l → get_or (repeated l x) k 0 ≡ x
unfolding repeated
at_repeated l x k h = tab_at l (λ k. x) k h

at-zeros : (l k : ℕ) → get_or (repeated l 0) k 0 ≡ 0
at-zeros l k = by_lt k l (λ h. at_repeated l 0 k h) (λ h. past (repeated l 0) k (omega (arith, length_repeated l 0)))

module _ (op : SetOp) (n m d : ℕ) (f : NoneFrom op n m d) where
  never : (x y : ℕ) → get_or (repeated n x) d 0 ≡ x → get_or (repeated m y) d 0 ≡ y → word_by op x y ≡ 1 → ⊥
  never x y p q e =
      let z = f (repeated n x) (repeated m y) (length_repeated n x) (length_repeated m y) d (omega arith) in
      omega (arith, sym e ∙ sym (ap₂ (word_by op) p q) ∙ sym (by_at op (repeated n x) (repeated m y) d) ∙ z)

  -- where one list alone makes a word that is not 0
  never_either : word_by op 1 0 ≡ 1 → word_by op 0 1 ≡ 1 → max n m ≤ d
  never_either p q =
      by_lt d n (λ l. absurd (never 1 0 (at_repeated n 1 d l) (at-zeros m d) p))
      (λ h. by_lt d m (λ l. absurd (never 0 1 (at-zeros n d) (at_repeated m 1 d l) q)) (λ k. omega arith))

end_least : (op : SetOp) (n m d : ℕ) → NoneFrom op n m d → end_by op n m ≤ d
unfolding word_by bit
end_least And n m d f = by_lt d (min n m) (λ l. absurd (never And n m d f 1 1 (at_repeated n 1 d (omega arith)) (at_repeated m 1 d (omega arith)) refl)) (λ h. h)
end_least AndNot n m d f = by_lt d n (λ l. absurd (never AndNot n m d f 1 0 (at_repeated n 1 d l) (at-zeros m d) refl)) (λ h. h)
end_least Or n m d f = never_either Or n m d f refl refl
end_least Xor n m d f = never_either Xor n m d f refl refl

pub end_means : EndMeans
end_means = record {
  past = λ op n m xs ys p q k h. (past_end op xs ys (end_by op n m) (sym (ap₂ (end_by op) p q)) (k + 1)).at k h (omega arith);
  least = end_least;
}

-- ---- the eights

pub eights_mean : EightsMean
unfolding zero_eights
eights_mean ws e k h =
    let z = eights_zero ws k e (zero_eights ws e k) refl in
    record {
      from = z.0;
      whole = omega arith;
      zero = z.1.at;
      inside = by_lt (min (nonzero_from ws k) e) k (λ l. inl (omega arith)) (λ l. inr (omega arith));
      last = λ f.
          by_lt (nonzero_from ws k) e
          (λ l. absurd (at_first ws k (omega arith) (f (nonzero_from ws k) (omega (arith, from_first ws k)) (omega arith))))
          (λ l. omega arith);
    }
