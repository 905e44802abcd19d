-- What the definitions promise, in words of their own. Each is proved in proofs/Promises.
use Rattle.std.specs.Prelude.{ℕ, ◌+◌, ◌-◌, ◌%◌, ◌^◌, ◌≤◌, ◌<◌, max, ◌≡◌, Bool, true, false, List, ◌↔◌, ◌⊎◌, length, get_or}
use Rattle.word.specs.Places.{bit, member}
use Rattle.pairs.specs.Pairs.{table_of, word_by, words_by, end_by, zero_eights}
use Rattle.pairs.specs.declared.SetOp.{SetOp}
use Rattle.pairs.specs.declared.SetOp.TheVariants.{And, AndNot, Or, Xor}

-- demand 2: when a number comes in by an operation, where p says of the first set that it is there and q of the second
abbrev pub ComesIn : SetOp → Bool → Bool → Type 0
ComesIn And p q = (p ≡ true) × (q ≡ true)
ComesIn AndNot p q = (p ≡ true) × (q ≡ false)
ComesIn Or p q = (p ≡ true) ⊎ (q ≡ true)
ComesIn Xor p q = ((p ≡ true) × (q ≡ false)) ⊎ ((p ≡ false) × (q ≡ true))

-- the truth table
abbrev pub TableMeans : Type 0
TableMeans = (op : SetOp) (p q : Bool) → (table_of op p q ≡ true) ↔ ComesIn op p q

-- `SetOp::word`: of each place of two words
pub record MakesWord : Type 0 where
  pub fits : (op : SetOp) (x y : ℕ) → word_by op x y < 2 ^ 64
  pub places : (op : SetOp) (x y j : ℕ) → j < 64 → (bit (word_by op x y) j ≡ true) ↔ ComesIn op (bit x j) (bit y j)

-- demand 2: of each number of two lists, in as many words as the longer
pub record MakesSet : Type 0 where
  pub long : (op : SetOp) (xs ys : List ℕ) → length (words_by op xs ys) ≡ max (length xs) (length ys)
  pub fits : (op : SetOp) (xs ys : List ℕ) (k : ℕ) → get_or (words_by op xs ys) k 0 < 2 ^ 64
  pub members : (op : SetOp) (xs ys : List ℕ) (i : ℕ) → (member (words_by op xs ys) i ≡ true) ↔ ComesIn op (member xs i) (member ys i)

-- every word is 0 from d on, whatever lists of n and of m words there are
abbrev pub NoneFrom : SetOp → ℕ → ℕ → ℕ → Type 0
NoneFrom op n m d = (xs ys : List ℕ) → length xs ≡ n → length ys ≡ m → (k : ℕ) → d ≤ k → get_or (words_by op xs ys) k 0 ≡ 0

-- `end_of`: the least such place
pub record EndMeans : Type 0 where
  pub past : (op : SetOp) (n m : ℕ) → NoneFrom op n m (end_by op n m)
  pub least : (op : SetOp) (n m d : ℕ) → NoneFrom op n m d → end_by op n m ≤ d

-- from k on the words are 0 up to r, eight at a time and below e, and the next eight are not, or not all below e
pub record Eights (ws : List ℕ) (e k r : ℕ) : Type 0 where
  pub from : k ≤ r
  pub whole : (r - k) % 8 ≡ 0
  pub zero : (j : ℕ) → k ≤ j → j < r → get_or ws j 0 ≡ 0
  pub inside : (r ≡ k) ⊎ (r ≤ e)
  pub last : ((j : ℕ) → r ≤ j → j < r + 8 → get_or ws j 0 ≡ 0) → e < r + 8

-- `zero_eights`
abbrev pub EightsMean : Type 0
EightsMean = (ws : List ℕ) (e k : ℕ) → e ≤ length ws → Eights ws e k (zero_eights ws e k)
