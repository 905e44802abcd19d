-- What the calls promise, from their contracts and in words of their own, at every set operation. Each is proved in proofs/Promises.
use Rattle.std.specs.Prelude.{◌≡◌, ℕ, ◌+◌, ◌*◌, ◌≤◌, max, Bool, true, false, List, ◌≢◌}
use Rattle.word.specs.Sets.{Counted}
use Rattle.pairs.specs.Promises.{ComesIn}
use Rattle.pairs.specs.declared.SetOp.{SetOp}
use Rattle.pairs.specs.declared.SetOp.TheVariants.{And, AndNot, Or, Xor}
use Rattle.storage.specs.Refusals.{answer_number, amount_value, truth_value}
use Rattle.storage.specs.Guards.{Passed}
use Rattle.storage.specs.Promises.{MadeOf, GuardedBoth, HandsNone, Hands, Tests}
use Rattle.storage.specs.Stores.{held}
use Rattle.storage.specs.declared.Bitmap.{Bitmap}
use Rattle.algebra.specs.Algebra.{empty_of, count_of}
use Rattle.storage.specs.Refusals.{Amount, Truth}

-- i is a member of the bitmap whose record is b
abbrev pub is_in : List ℕ → Bitmap → ℕ → Bool
is_in ws b i = (held ws b).members i

-- demands 1 and 2: the answer r is refused for a store, or 1 exactly where P holds, else 0
abbrev pub TestsBoth : List ℕ → Bitmap → List ℕ → Bitmap → Type 0 → Truth → Type 0
TestsBoth ws b os o P r =
    GuardedBoth ws b os o (HandsNone (answer_number r) (truth_value r)) (Tests P (answer_number r) (truth_value r))

-- a test: no number at all comes in
abbrev pub TestMeans : Type 0
TestMeans =
    (op : SetOp) (ws : List ℕ) (b : Bitmap) (os : List ℕ) (o : Bitmap) (r : Truth) → r ≡ empty_of op ws b os o
    → TestsBoth ws b os o ((i : ℕ) → ComesIn op (is_in ws b i) (is_in os o i) → ⊥) r

-- `is_subset`: every member of the first is one of the second
abbrev pub SubsetMeans : Type 0
SubsetMeans =
    (ws : List ℕ) (b : Bitmap) (os : List ℕ) (o : Bitmap) (r : Truth) → r ≡ empty_of AndNot ws b os o
    → TestsBoth ws b os o ((i : ℕ) → is_in ws b i ≡ true → is_in os o i ≡ true) r

-- `is_disjoint`: no number is in both
abbrev pub DisjointMeans : Type 0
DisjointMeans =
    (ws : List ℕ) (b : Bitmap) (os : List ℕ) (o : Bitmap) (r : Truth) → r ≡ empty_of And ws b os o
    → TestsBoth ws b os o ((i : ℕ) → is_in ws b i ≡ true → is_in os o i ≢ true) r

-- c is how many members the set s has, whatever counts them up to e or further; 0 exactly where there is none
pub record CountExact (s : ℕ → Bool) (e c : ℕ) : Type 0 where
  pub all : (k : ℕ) → e ≤ k → Counted s k c
  pub none : c ≡ 0 → (i : ℕ) → s i ≡ false
  pub zero : ((i : ℕ) → s i ≡ false) → c ≡ 0

-- demands 1 and 2: a count, of the set s of exactly the numbers that come in
abbrev pub CountMeans : Type 0
CountMeans =
    (op : SetOp) (ws : List ℕ) (b : Bitmap) (os : List ℕ) (o : Bitmap) (r : Amount) → r ≡ count_of op ws b os o
    → GuardedBoth ws b os o (HandsNone (answer_number r) (amount_value r))
    ((s : ℕ → Bool) → MadeOf op (held ws b) (held os o) s → Hands (CountExact s (64 * max b.count o.count)) (answer_number r) (amount_value r))

-- four counts of bitmaps that have s and t members
pub record Sums (s t and or xor andnot : ℕ) : Type 0 where
  pub and-or : and + or ≡ s + t
  pub xor-and : xor + and ≡ or
  pub andnot-and : andnot + and ≡ s

-- demand 2: the four counts and the sizes of the two bitmaps add up
abbrev pub CountsAddUp : Type 0
CountsAddUp =
    (ws : List ℕ) (b : Bitmap) (os : List ℕ) (o : Bitmap) → Passed ws b → Passed os o
    → (a u x d : Amount) → a ≡ count_of And ws b os o → u ≡ count_of Or ws b os o → x ≡ count_of Xor ws b os o → d ≡ count_of AndNot ws b os o
    → (s t : ℕ) → Counted (is_in ws b) (64 * b.count) s → Counted (is_in os o) (64 * o.count) t
    → Sums s t (amount_value a) (amount_value u) (amount_value x) (amount_value d)
