-- The members that an operation makes of two lists of words, counted word by word.
use Rattle.std.proofs.Common.{◌≡◌, ℕ, ◌+◌, ◌-◌, ◌*◌, ◌%◌, ◌^◌, ◌≤◌, ◌<◌, max, List, length, get_or, take, drop, sym, ap, ◌∙◌, arith, length-take-le, length-drop, get_or-take, get_or-drop}
use Rattle.word.specs.Sets.{count_below}
use Rattle.word.specs.Places.{bit, member}
use Rattle.word.proofs.Lists.{past}
use Rattle.arch.specs.Scans.{count_set}
use Rattle.arch.proofs.Counts.{count_next, count-end}
use Rattle.pairs.specs.Pairs.{word_by, words_by}
use Rattle.pairs.specs.declared.SetOp.{SetOp}
use Rattle.pairs.proofs.Tables.{by_length, by_at}

-- the low digits of how many are below word k
abbrev pub below : SetOp → List ℕ → List ℕ → ℕ → ℕ
below op xs ys k = count_below (member (words_by op xs ys)) (64 * k) % 2 ^ 64

module _ (op : SetOp) (xs ys : List ℕ) (k : ℕ) {n m r x : ℕ} (s : n ≡ below op xs ys k) (e : m ≡ count_below (bit x) 64) (q : r ≡ (n + m) % 2 ^ 64) where
  pub more : x ≡ word_by op (get_or xs k 0) (get_or ys k 0) → r ≡ below op xs ys (k + 1)
  more w = count_next (words_by op xs ys) k n m r s (e ∙ ap (λ (y : ℕ). count_below (bit y) 64) (w ∙ sym (by_at op xs ys k))) q

  -- where only the first list has a word, and where only the second has one
  pub more_first : length ys ≤ k → x ≡ word_by op (get_or xs k 0) 0 → r ≡ below op xs ys (k + 1)
  more_first l w = more (w ∙ ap (word_by op (get_or xs k 0)) (sym (past ys k l)))

  pub more_second : length xs ≤ k → x ≡ word_by op 0 (get_or ys k 0) → r ≡ below op xs ys (k + 1)
  more_second l w = more (w ∙ ap (λ (y : ℕ). word_by op y (get_or ys k 0)) (sym (past xs k l)))

-- ---- the words of a list from the nth on

pub rest_long : (xs : List ℕ) (n : ℕ) → length (take (length xs - n) (drop n xs)) ≡ length xs - n
rest_long xs n = length-take-le (length xs - n) (drop n xs) (omega (arith, length-drop n xs))

pub rest_at : (xs : List ℕ) (n k : ℕ) → k < length (take (length xs - n) (drop n xs)) → get_or (take (length xs - n) (drop n xs)) k 0 ≡ get_or xs (n + k) 0
rest_at xs n k l = get_or-take (length xs - n) (drop n xs) k 0 (omega (arith, rest_long xs n)) ∙ get_or-drop n xs k 0

pub all_below : (op : SetOp) (xs ys : List ℕ) (k : ℕ) {n : ℕ} → k ≡ max (length xs) (length ys) → n ≡ below op xs ys k → n ≡ count_set (words_by op xs ys)
all_below op xs ys k {n} e = count-end (words_by op xs ys) k n (omega (arith, by_length op xs ys)) (omega (arith, by_length op xs ys))
