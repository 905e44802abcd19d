-- The last words before the others: through a buffer, and by swaps.
use mathlib.Core.Path.{◌≡◌, sym, ap, ◌∙◌}
use mathlib.Core.List.{List, ◌++◌}
use Prim.Native.Nat.{ℕ, ◌+◌, ◌-◌, ◌≤◌, ◌<◌}
use native.Mathlib.Omega.{arith}
use borrow.Rule.Slice.PartMut.{put_mid}
use lib.ListN.{length, get_or, take, drop, length-append, length-drop, get_or-append}
use lib.Seq.{get_or-take, get_or-drop, ext_get_or, length-take-le}
use Rattle.std.proofs.Math.Seq.{take-append_seam}
use Rattle.word.proofs.Cases.{by_lt}
use Rattle.word.proofs.Lists.{past}
use Rattle.moves.specs.Moves.{turned_words}
use Rattle.moves.specs.Kernels.{Swapped}
use Rattle.moves.specs.Promises.{GoesUp, GoesDown}
use Rattle.moves.proofs.Pieces.{get_d_after}
use Rattle.moves.proofs.Promises.{turned}

-- ---- the last words before the others

-- what is promised of them, by index: the first m, and those behind
module _ (ws : List ℕ) (m : ℕ) (h : m ≤ length ws) where
  pub turned_long : length (turned_words m ws) ≡ length ws
  turned_long = (turned m ws).long

  pub turned_low : (i : ℕ) → i < m → get_or (turned_words m ws) i 0 ≡ get_or ws (length ws - m + i) 0
  turned_low i l = (turned m ws).wraps (length ws - m + i) i h (omega arith) (omega arith)

  pub turned_high : (i : ℕ) → i < length ws - m → get_or (turned_words m ws) (m + i) 0 ≡ get_or ws i 0
  turned_high i l = ap (λ (x : ℕ). get_or (turned_words m ws) x 0) {y = i + m} (omega arith) ∙ (turned m ws).goes i (omega arith)

  pub turned_is : (ws' : List ℕ) → length ws' ≡ length ws → ((i : ℕ) → i < m → get_or ws' i 0 ≡ get_or ws (length ws - m + i) 0)
      → ((i : ℕ) → i < length ws - m → get_or ws' (m + i) 0 ≡ get_or ws i 0) → ws' ≡ turned_words m ws
  turned_is ws' e low high =
      ext_get_or 0 ws' (turned_words m ws) (e ∙ sym turned_long)
      (λ k l. by_lt k m
      (λ p. low k p ∙ sym (turned_low k p))
      (λ p.
      ap (λ (x : ℕ). get_or ws' x 0) {y = m + (k - m)} (omega arith) ∙ high (k - m) (omega arith)
      ∙ sym (turned_high (k - m) (omega arith)) ∙ ap (λ (x : ℕ). get_or (turned_words m ws) x 0) (omega arith)))

-- nothing turns by as many words as there are, or by more
pub turned_past : (ws : List ℕ) (m : ℕ) → length ws ≤ m → ws ≡ turned_words m ws
turned_past ws m h = sym ((turned m ws).stays h)

-- words put in the place of those from a on
module _ (ws ys : List ℕ) (a : ℕ) (long : a + length ys ≡ length ws) where
  pub put_long : length (put_mid a (length ws - a) ws ys) ≡ length ws
  put_long =
      length-append (take a ws) (ys ++ drop (length ws - a) (drop a ws))
      ∙ omega (arith, length-take-le a ws (omega arith), length-append ys (drop (length ws - a) (drop a ws)), length-drop (length ws - a) (drop a ws), length-drop a ws)

  pub put_in : (i : ℕ) → a + i < length ws → get_or (put_mid a (length ws - a) ws ys) (a + i) 0 ≡ get_or ys i 0
  put_in i l =
      get_d_after (take a ws) (ys ++ drop (length ws - a) (drop a ws)) a i (length-take-le a ws (omega arith))
      ∙ get_or-append ys (drop (length ws - a) (drop a ws)) 0 i (omega arith)

  pub put_below : (i : ℕ) → i < a → get_or (put_mid a (length ws - a) ws ys) i 0 ≡ get_or ws i 0
  put_below i l =
      get_or-append (take a ws) (ys ++ drop (length ws - a) (drop a ws)) 0 i (omega (arith, length-take-le a ws (omega arith))) ∙ get_or-take a ws i 0 l

-- what is read of an array into whose start a part has been copied
pub held_part : (part xs ys zs : List ℕ) (m : ℕ) → length part ≡ m → xs ≡ part → ys ≡ take m (xs ++ zs) → ys ≡ part
held_part part xs ys zs m e f g = g ∙ ap (λ (k : ℕ). take k (xs ++ zs)) (sym e ∙ sym (ap length f)) ∙ take-append_seam xs zs ∙ f

-- the last m words, as a slice of them is lent
abbrev pub last_words : List ℕ → ℕ → List ℕ
last_words ws m = take (length ws - (length ws - m)) (drop (length ws - m) ws)

pub last_long : (ws : List ℕ) (m : ℕ) → m ≤ length ws → length (last_words ws m) ≡ m
last_long ws m h = length-take-le (length ws - (length ws - m)) (drop (length ws - m) ws) (omega (arith, length-drop (length ws - m) ws)) ∙ omega arith

-- the last m words held while the others move up
pub turned_up_lem : (ws w1 ys : List ℕ) (m : ℕ) → m ≤ length ws → ys ≡ last_words ws m → GoesUp m ws w1 → ys ++ drop m w1 ≡ turned_words m ws
turned_up_lem ws w1 ys m h f s =
    turned_is ws m h (ys ++ drop m w1) (length-append ys (drop m w1) ∙ omega (arith, long, length-drop m w1, s.long))
    (λ i l.
    get_or-append ys (drop m w1) 0 i (omega (arith, long)) ∙ ap (λ (y : List ℕ). get_or y i 0) f
    ∙ get_or-take (length ws - (length ws - m)) (drop (length ws - m) ws) i 0 (omega arith) ∙ get_or-drop (length ws - m) ws i 0)
    (λ i l. get_d_after ys (drop m w1) m i long ∙ get_or-drop m w1 i 0 ∙ ap (λ (x : ℕ). get_or w1 x 0) {y = i + m} (omega arith) ∙ s.goes i (omega arith))
  where
    long : length ys ≡ m
    long = ap length f ∙ last_long ws m h

-- the others held while the last m words move down
pub turned_down_lem : (ws w1 ys : List ℕ) (m : ℕ) → m ≤ length ws → ys ≡ take (length ws - m) ws → GoesDown (length ws - m) ws w1
    → put_mid m (length w1 - m) w1 ys ≡ turned_words m ws
turned_down_lem ws w1 ys m h f s =
    turned_is ws m h (put_mid m (length w1 - m) w1 ys) (put_long w1 ys m long ∙ s.long)
    (λ i l. put_below w1 ys m long i l ∙ s.goes i (omega arith) ∙ ap (λ (x : ℕ). get_or ws x 0) (omega arith))
    (λ i l. put_in w1 ys m long i (omega (arith, s.long)) ∙ ap (λ (y : List ℕ). get_or y i 0) f ∙ get_or-take (length ws - m) ws i 0 l)
  where
    long : m + length ys ≡ length w1
    long = ap (λ (y : List ℕ). m + length y) f ∙ omega (arith, length-take-le (length ws - m) ws (omega arith), s.long)

-- ---- turned by swaps

-- the first `low` words and the `high` after them are left to turn; t is what the words become
pub record Turning (t : ℕ → ℕ) (low high : ℕ) (ws : List ℕ) : Type 0 where
  pub up : (i : ℕ) → i < low → get_or ws i 0 ≡ t (high + i)
  pub down : (i : ℕ) → i < high → get_or ws (low + i) 0 ≡ t i
  pub done : (i : ℕ) → low + high ≤ i → get_or ws i 0 ≡ t i

pub turning_none : (ws : List ℕ) (m : ℕ) → m ≤ length ws → Turning (λ i. get_or (turned_words m ws) i 0) (length ws - m) m ws
turning_none ws m h = record {
  up = λ i l. sym (turned_high ws m h i l);
  down = λ i l. sym (turned_low ws m h i l);
  done = λ i l. past ws i (omega arith) ∙ sym (past (turned_words m ws) i (omega (arith, turned_long ws m h)));
}

module _ (t : ℕ → ℕ) (low high : ℕ) (w1 w2 : List ℕ) (s : Turning t low high w1) where
  pub turning_low : high ≤ low → Swapped (low - high) (low - high + high) high w1 w2 → Turning t (low - high) high w2
  turning_low h c = record {
    up = λ i l. c.below i l ∙ s.up i (omega arith);
    down = λ i l. c.first i l ∙ ap (λ (x : ℕ). get_or w1 x 0) (omega arith) ∙ s.down i l;
    done = λ i l.
        by_lt i (low + high)
        (λ p.
        ap (λ (x : ℕ). get_or w2 x 0) {y = low - high + high + (i - low)} (omega arith) ∙ c.second (i - low) (omega arith)
        ∙ s.up (low - high + (i - low)) (omega arith) ∙ ap t (omega arith))
        (λ p. c.above i (omega arith) ∙ s.done i p);
  }

  pub turning_high : low ≤ high → Swapped 0 (low + (high - low)) low w1 w2 → Turning t low (high - low) w2
  turning_high h c = record {
    up = λ i l.
        ap (λ (x : ℕ). get_or w2 x 0) {y = 0 + i} (omega arith) ∙ c.first i l ∙ ap (λ (x : ℕ). get_or w1 x 0) {y = low + (high - low + i)} (omega arith)
        ∙ s.down (high - low + i) (omega arith);
    down = λ i l. c.between (low + i) (omega arith) (omega arith) ∙ s.down i (omega arith);
    done = λ i l.
        by_lt i (low + high)
        (λ p.
        ap (λ (x : ℕ). get_or w2 x 0) {y = low + (high - low) + (i - high)} (omega arith) ∙ c.second (i - high) (omega arith)
        ∙ ap (λ (x : ℕ). get_or w1 x 0) {y = i - high} (omega arith) ∙ s.up (i - high) (omega arith) ∙ ap t (omega arith))
        (λ p. c.above i (omega arith) ∙ s.done i p);
  }

-- the words that are left, turned by themselves
pub turning_all : (old ws ys : List ℕ) (m low high : ℕ) → m ≤ length old → length ws ≡ length old → low + high ≤ length ws
    → Turning (λ i. get_or (turned_words m old) i 0) low high ws → ys ≡ turned_words high (take (low + high) ws) → ys ++ drop (low + high) ws ≡ turned_words m old
turning_all old ws ys m low high h e l s f =
    ext_get_or 0 (ys ++ drop (low + high) ws) (turned_words m old)
    (length-append ys (drop (low + high) ws) ∙ omega (arith, long, length-drop (low + high) ws, e, turned_long old m h))
    (λ k p. by_lt k (low + high)
    (λ q. get_or-append ys (drop (low + high) ws) 0 k (omega (arith, long)) ∙ ap (λ (y : List ℕ). get_or y k 0) f ∙ inside k q)
    (λ q.
    ap (λ (x : ℕ). get_or (ys ++ drop (low + high) ws) x 0) {y = low + high + (k - (low + high))} (omega arith)
    ∙ get_d_after ys (drop (low + high) ws) (low + high) (k - (low + high)) long ∙ get_or-drop (low + high) ws (k - (low + high)) 0
    ∙ ap (λ (x : ℕ). get_or ws x 0) {y = k} (omega arith) ∙ s.done k q))
  where
    part : List ℕ
    part = take (low + high) ws

    long_part : length part ≡ low + high
    long_part = length-take-le (low + high) ws l

    long : length ys ≡ low + high
    long = ap length f ∙ turned_long part high (omega (arith, long_part)) ∙ long_part

    inside : (k : ℕ) → k < low + high → get_or (turned_words high part) k 0 ≡ get_or (turned_words m old) k 0
    inside k q =
        by_lt k high
        (λ p.
        turned_low part high (omega (arith, long_part)) k p ∙ ap (λ (x : ℕ). get_or part x 0) {y = low + k} (omega (arith, long_part))
        ∙ get_or-take (low + high) ws (low + k) 0 (omega arith) ∙ s.down k p)
        (λ p.
        ap (λ (x : ℕ). get_or (turned_words high part) x 0) {y = high + (k - high)} (omega arith)
        ∙ turned_high part high (omega (arith, long_part)) (k - high) (omega (arith, long_part)) ∙ get_or-take (low + high) ws (k - high) 0 (omega arith)
        ∙ s.up (k - high) (omega arith) ∙ ap (λ (x : ℕ). get_or (turned_words m old) x 0) (omega arith))
