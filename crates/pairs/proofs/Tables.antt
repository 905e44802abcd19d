-- The words that a set operation makes, place by place.
use mathlib.Core.Path.{◌≡◌, refl, sym, ap, ap₂, ◌∙◌, subst}
use mathlib.Core.Bool.{Bool, false, ◌&&◌}
use mathlib.Core.List.{List}
use Prim.Native.Nat.{ℕ, ◌-◌, ◌/◌, ◌%◌, ◌^◌, ◌≤◌, ◌<◌, max}
use native.Mathlib.Omega.{arith}
use lib.ListN.{length, get_or}
use lib.Pow.{ones_sub-lt}
use lib.Bits.{bit_and, bit_or, bit_xor, and_lt, or_lt, xor_lt}
use Rattle.word.specs.Places.{bit, member}
use Rattle.word.proofs.Cases.{by_lt, or-false, xor-false, and-false, and-keep}
use Rattle.word.proofs.Places.{bit-and, bit-or, bit-xor, bit_not, bit-zero, bit-pack, pack_is, pack-lt}
use Rattle.word.proofs.Lists.{Fit, past, length_tab, tab_at}
use Rattle.arch.specs.Scans.{nonzero_len}
use Rattle.arch.proofs.Scans.{nonzero_last}
use Rattle.pairs.specs.Pairs.{table_of, word_by, words_by, end_by}
use Rattle.pairs.specs.declared.SetOp.{SetOp}
use Rattle.pairs.specs.declared.SetOp.TheVariants.{And, AndNot, Or, Xor}

-- a word that has the operation's places is the operation's
pub word_by_lem : (op : SetOp) (x y z : ℕ) → z < 2 ^ 64 → ((j : ℕ) → j < 64 → bit z j ≡ table_of op (bit x j) (bit y j)) → z ≡ word_by op x y
unfolding word_by
word_by_lem op x y z h f = pack_is 64 z (λ j. table_of op (bit x j) (bit y j)) h f

module _ (x y : ℕ) (p : x < 2 ^ 64) (q : y < 2 ^ 64) where
  pub by_and : bit_and x y ≡ word_by And x y
  by_and = word_by_lem And x y (bit_and x y) (and_lt 64 x y p q) (λ j l. bit-and x y j)

  pub by_andnot : bit_and x ((2 ^ 64 - 1) - y) ≡ word_by AndNot x y
  by_andnot =
      word_by_lem AndNot x y (bit_and x ((2 ^ 64 - 1) - y)) (and_lt 64 x ((2 ^ 64 - 1) - y) p (ones_sub-lt 64 y))
      (λ j l. bit-and x ((2 ^ 64 - 1) - y) j ∙ ap (λ (t : Bool). bit x j && t) (bit_not y 64 j q l))

  pub by_or : bit_or x y ≡ word_by Or x y
  by_or = word_by_lem Or x y (bit_or x y) (or_lt 64 x y p q) (λ j l. bit-or x y j)

  pub by_xor : bit_xor x y ≡ word_by Xor x y
  by_xor = word_by_lem Xor x y (bit_xor x y) (xor_lt 64 x y p q) (λ j l. bit-xor x y j)

pub by_lt_word : (op : SetOp) (x y : ℕ) → word_by op x y < 2 ^ 64
unfolding word_by
by_lt_word op x y = pack-lt 64 (λ j. table_of op (bit x j) (bit y j))

pub by_bit : (op : SetOp) (x y j : ℕ) → j < 64 → bit (word_by op x y) j ≡ table_of op (bit x j) (bit y j)
unfolding word_by
by_bit op x y j l = bit-pack 64 (λ j. table_of op (bit x j) (bit y j)) j l

-- ---- where a list has only 0

pub none_none : (op : SetOp) → table_of op false false ≡ false
none_none And = refl
none_none AndNot = refl
none_none Or = refl
none_none Xor = refl

both_zero : (op : SetOp) (x y : ℕ) → x ≡ 0 → y ≡ 0 → word_by op x y ≡ 0
both_zero op x y p q =
    sym
    (word_by_lem op x y 0 (omega arith)
    (λ j l. bit-zero j ∙ sym (ap₂ (λ (s t : ℕ). table_of op (bit s j) (bit t j)) p q ∙ ap₂ (table_of op) (bit-zero j) (bit-zero j) ∙ none_none op)))

first_zero : (op : SetOp) (x y : ℕ) → ((q : Bool) → table_of op false q ≡ false) → x ≡ 0 → word_by op x y ≡ 0
first_zero op x y f p =
    sym (word_by_lem op x y 0 (omega arith) (λ j l. bit-zero j ∙ sym (ap (λ (s : ℕ). table_of op (bit s j) (bit y j)) p ∙ ap (λ (t : Bool). table_of op t (bit y j)) (bit-zero j) ∙ f (bit y j))))

and_second : (x y : ℕ) → y ≡ 0 → word_by And x y ≡ 0
and_second x y p =
    sym (word_by_lem And x y 0 (omega arith) (λ j l. bit-zero j ∙ sym (ap (λ (s : ℕ). bit x j && bit s j) p ∙ ap (λ (t : Bool). bit x j && t) (bit-zero j) ∙ and-false (bit x j))))

-- past the end that two ends make, the operation makes 0
pub end-zero : (op : SetOp) (n m k x y : ℕ) → (n ≤ k → x ≡ 0) → (m ≤ k → y ≡ 0) → end_by op n m ≤ k → word_by op x y ≡ 0
end-zero And n m k x y p q h = by_lt k n (λ l. and_second x y (q (omega arith))) (λ l. first_zero And x y (λ t. refl) (p l))
end-zero AndNot n m k x y p q h = first_zero AndNot x y (λ t. refl) (p h)
end-zero Or n m k x y p q h = both_zero Or x y (p (omega arith)) (q (omega arith))
end-zero Xor n m k x y p q h = both_zero Xor x y (p (omega arith)) (q (omega arith))

pub end-le : (op : SetOp) (n m : ℕ) → end_by op n m ≤ max n m
end-le And n m = omega arith
end-le AndNot n m = omega arith
end-le Or n m = omega arith
end-le Xor n m = omega arith

-- an end past the first list's is the second's
pub end_top : (op : SetOp) (n m : ℕ) → n < end_by op n m → end_by op n m ≡ m
end_top And n m h = absurd (omega arith)
end_top AndNot n m h = absurd (omega arith)
end_top Or n m h = omega arith
end_top Xor n m h = omega arith

-- ---- below that end, a word that only one of the lists has passes through

first_alone : (op : SetOp) (x y : ℕ) → ((p : Bool) → table_of op p false ≡ p) → x < 2 ^ 64 → y ≡ 0 → word_by op x y ≡ x
first_alone op x y f h e =
    sym (word_by_lem op x y x h (λ j l. sym (ap (λ (s : ℕ). table_of op (bit x j) (bit s j)) e ∙ ap (table_of op (bit x j)) (bit-zero j) ∙ f (bit x j))))

second_alone : (op : SetOp) (x y : ℕ) → ((q : Bool) → table_of op false q ≡ q) → y < 2 ^ 64 → x ≡ 0 → word_by op x y ≡ y
second_alone op x y f h e =
    sym (word_by_lem op x y y h (λ j l. sym (ap (λ (s : ℕ). table_of op (bit s j) (bit y j)) e ∙ ap (λ (t : Bool). table_of op t (bit y j)) (bit-zero j) ∙ f (bit y j))))

pub end_first : (op : SetOp) (n m k x y : ℕ) → x < 2 ^ 64 → y ≡ 0 → m ≤ k → k < end_by op n m → word_by op x y ≡ x
end_first And n m k x y h e p l = absurd (omega arith)
end_first AndNot n m k x y h e p l = first_alone AndNot x y and-keep h e
end_first Or n m k x y h e p l = first_alone Or x y or-false h e
end_first Xor n m k x y h e p l = first_alone Xor x y xor-false h e

pub end_second : (op : SetOp) (n m k x y : ℕ) → y < 2 ^ 64 → x ≡ 0 → n ≤ k → k < end_by op n m → word_by op x y ≡ y
end_second And n m k x y h e p l = absurd (omega arith)
end_second AndNot n m k x y h e p l = absurd (omega arith)
end_second Or n m k x y h e p l = second_alone Or x y (λ q. refl) h e
end_second Xor n m k x y h e p l = second_alone Xor x y (λ q. refl) h e

-- ---- the words of two lists

module _ (op : SetOp) (xs ys : List ℕ) where
  pub by_length : length (words_by op xs ys) ≡ max (length xs) (length ys)
  unfolding words_by
  by_length = length_tab 0 (max (length xs) (length ys)) (λ k. word_by op (get_or xs k 0) (get_or ys k 0))

  pub by_at : (k : ℕ) → get_or (words_by op xs ys) k 0 ≡ word_by op (get_or xs k 0) (get_or ys k 0)
  unfolding words_by
  by_at k =
      by_lt k (max (length xs) (length ys))
      (λ l. tab_at (max (length xs) (length ys)) (λ k. word_by op (get_or xs k 0) (get_or ys k 0)) k l)
      (λ l. past (words_by op xs ys) k (omega (arith, by_length)) ∙ sym (both_zero op (get_or xs k 0) (get_or ys k 0) (past xs k (omega arith)) (past ys k (omega arith))))

  pub by_fit : Fit (words_by op xs ys)
  by_fit k = subst (λ (x : ℕ). x < 2 ^ 64) (sym (by_at k)) (by_lt_word op (get_or xs k 0) (get_or ys k 0))

  -- as sets: a number is in the words by whether it is in those of each
  pub by_member : (i : ℕ) → member (words_by op xs ys) i ≡ table_of op (member xs i) (member ys i)
  unfolding member
  by_member i = ap (λ (x : ℕ). bit x (i % 64)) (by_at (i / 64)) ∙ by_bit op (get_or xs (i / 64) 0) (get_or ys (i / 64) 0) (i % 64) (omega arith)

  -- the fewest words that hold it lie below the end that two ends make
  pub by_nonzero : (n m r : ℕ) → ((k : ℕ) → n ≤ k → get_or xs k 0 ≡ 0) → ((k : ℕ) → m ≤ k → get_or ys k 0 ≡ 0) → r ≡ nonzero_len (words_by op xs ys) → r ≤ end_by op n m
  by_nonzero n m r f g e =
      by_lt (end_by op n m) r
      (λ l. absurd (nonzero_last (words_by op xs ys) (r - 1) (omega arith)
      (by_at (r - 1) ∙ end-zero op n m (r - 1) (get_or xs (r - 1) 0) (get_or ys (r - 1) 0) (f (r - 1)) (g (r - 1)) (omega arith))))
      (λ l. l)
