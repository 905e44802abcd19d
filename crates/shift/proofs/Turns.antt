-- Words turned whole, and the walks that turn the odd bits.
use mathlib.Core.Path.{◌≡◌, refl, sym, ap, ap₂, ◌∙◌, subst}
use mathlib.Core.Bool.{Bool}
use mathlib.Core.List.{List}
use mathlib.Core.Logic.{◌⊎◌, inl, inr}
use Prim.Native.Nat.{ℕ, ◌+◌, ◌-◌, ◌*◌, ◌/◌, ◌%◌, ◌^◌, ◌≤◌, ◌<◌}
use native.Mathlib.Nat.{mod-lt, mod-eq_of_lt, mod_self, mod-add-mod, add-mod-mod, add-mod_right, mul_comm}
use native.Mathlib.Omega.{arith}
use lib.Arith.{mod-mul}
use lib.ListN.{length, get_or, set}
use Rattle.word.specs.Places.{bit, word_of, member, words_of}
use Rattle.word.specs.Words.{funneled}
use Rattle.word.proofs.Cases.{by_lt, by_eq}
use Rattle.word.proofs.Places.{bit-pack}
use Rattle.word.proofs.Lists.{Fit, tab_is, words_is, length_words, word_at_lem, words_fit, member-at, member_words}
use Rattle.word.proofs.Sweep.{Swept, sweep_to, sweep_up, sweep_down}
use Rattle.shifts.specs.Shifts.{turned_up, turned_down}
use Rattle.moves.specs.Moves.{turned_words}
use Rattle.shift.proofs.Moves.{funneled_is}
use Rattle.moves.proofs.Swaps.{turned_long, turned_low, turned_high}
use Rattle.shifts.proofs.Rings.{turned_from, turned_by, turned_rest, turned_twice, sunk_by}

-- where there are no words, they are any set's
pub no_words_lem : (ws : List ℕ) (s : ℕ → Bool) → length ws ≡ 0 → ws ≡ words_of s (length ws)
no_words_lem ws s e = words_is (length ws) s ws refl (λ k l. absurd (omega arith)) (λ k j l m. absurd (omega arith))

-- sets with the same members below the length have the same words
pub words_ext : (s t : ℕ → Bool) (n : ℕ) → ((i : ℕ) → i < 64 * n → s i ≡ t i) → words_of s n ≡ words_of t n
unfolding word_of
words_ext s t n h =
    words_is n t (words_of s n) (length_words s n) (λ k l. words_fit s n k)
    (λ k j l m. ap (λ (x : ℕ). bit x j) (word_at_lem s n k l) ∙ bit-pack 64 (λ j. s (64 * k + j)) j m ∙ h (64 * k + j) (omega arith))

-- every word swept
pub swept_all : (old : List ℕ) (s : ℕ → Bool) (ws : List ℕ) → Swept old (word_of s) 0 (length old) ws → ws ≡ words_of s (length old)
unfolding words_of
swept_all old s ws f = tab_is (length old) (word_of s) ws f.long (λ m a. f.fresh m (omega arith) a)

-- ---- turned up by whole words, and by odd bits

module _ (ws : List ℕ) (fit : Fit ws) (k : ℕ) where
  abbrev turned : ℕ → Bool
  turned = turned_up (64 * length ws) k (member ws)

  -- place j of word i comes from place m of word q
  from_turn : (i j q m : ℕ) → q < length ws → m < 64 → i < length ws → j < 64 → (64 * q + m + k ≡ 64 * i + j) ⊎ (64 * q + m + k ≡ 64 * i + j + 64 * length ws)
      → bit (get_or ws q 0) m ≡ turned (64 * i + j)
  from_turn i j q m hq hm hi hj e =
      sym (member-at ws q m hm) ∙ sym (turned_by (64 * length ws) (member ws) k (64 * i + j) (64 * q + m) (omega arith) (omega arith) e)

  pub turn_none : k ≡ 0 → ws ≡ words_of turned (length ws)
  turn_none e = words_is (length ws) turned ws refl (λ i l. fit i) (λ i j l m. from_turn i j i j l m l m (inl (omega arith)))

  -- by whole words: the last m words stand before the others
  pub turn-whole : (m : ℕ) → m ≤ length ws → k ≡ 64 * m → turned_words m ws ≡ words_of turned (length ws)
  turn-whole m h q =
      words_is (length ws) turned (turned_words m ws) (turned_long ws m h)
      (λ i l. by_lt i m
      (λ p. subst (λ (x : ℕ). x < 2 ^ 64) (sym (turned_low ws m h i p)) (fit (length ws - m + i)))
      (λ p. subst (λ (x : ℕ). x < 2 ^ 64) (sym (high i l p)) (fit (i - m))))
      (λ i j l r. by_lt i m
      (λ p. ap (λ (x : ℕ). bit x j) (turned_low ws m h i p) ∙ from_turn i j (length ws - m + i) j (omega arith) r l r (inr (omega arith)))
      (λ p. ap (λ (x : ℕ). bit x j) (high i l p) ∙ from_turn i j (i - m) j (omega arith) r l r (inl (omega arith))))
    where
      high : (i : ℕ) → i < length ws → m ≤ i → get_or (turned_words m ws) i 0 ≡ get_or ws (i - m) 0
      high i l p = ap (λ (x : ℕ). get_or (turned_words m ws) x 0) {y = m + (i - m)} (omega arith) ∙ turned_high ws m h (i - m) (omega arith)

  -- by odd bits: one turn of the walk, from the top down: word i - 1
  pub up_step : (ws' : List ℕ) (i v : ℕ) → k < 64 → Swept ws (word_of turned) i (length ws) ws' → 1 < i → i ≤ length ws
      → v ≡ funneled 64 (get_or ws' (i - 1 - 1) 0) (get_or ws' (i - 1) 0) (64 - k) k → Swept ws (word_of turned) (i - 1) (length ws) (set ws' (i - 1) v)
  up_step ws' i v h s p l e =
      sweep_down ws (word_of turned) (i - 1) (length ws) ws' v (sweep_to ws (word_of turned) i (length ws) (i - 1 + 1) (length ws) ws' s (omega arith) refl)
      (omega (arith, s.long)) (omega arith)
      (e
      ∙ ap₂ (λ (x y : ℕ). funneled 64 x y (64 - k) k) (s.below (i - 1 - 1) (omega arith)) (s.below (i - 1) (omega arith))
      ∙ funneled_is (get_or ws (i - 1 - 1) 0) (get_or ws (i - 1) 0) (64 - k) k turned (i - 1) (fit (i - 1 - 1)) (omega arith)
      (λ j r. from_turn (i - 1) j (i - 1 - 1) (64 - k + j) (omega arith) (omega arith) (omega arith) (omega arith) (inl (omega arith)))
      (λ j t r. from_turn (i - 1) j (i - 1) (j - k) (omega arith) (omega arith) (omega arith) t (inl (omega arith))))

  -- the last turn, whose word stands above the old last one
  pub up_last : (ws' : List ℕ) (i v : ℕ) → k < 64 → Swept ws (word_of turned) i (length ws) ws' → i ≡ 1 → 0 < length ws
      → v ≡ funneled 64 (get_or ws (length ws - 1) 0) (get_or ws' 0 0) (64 - k) k → set ws' 0 v ≡ words_of turned (length ws)
  up_last ws' i v h s q l e =
      swept_all ws turned (set ws' 0 v)
      (sweep_down ws (word_of turned) 0 (length ws) ws' v (sweep_to ws (word_of turned) i (length ws) (0 + 1) (length ws) ws' s q refl)
      (omega (arith, s.long)) l
      (e
      ∙ ap (λ (y : ℕ). funneled 64 (get_or ws (length ws - 1) 0) y (64 - k) k) (s.below 0 (omega arith))
      ∙ funneled_is (get_or ws (length ws - 1) 0) (get_or ws 0 0) (64 - k) k turned 0 (fit (length ws - 1)) (omega arith)
      (λ j r. from_turn 0 j (length ws - 1) (64 - k + j) (omega arith) (omega arith) l (omega arith) (inr (omega arith)))
      (λ j t r. from_turn 0 j 0 (j - k) l (omega arith) l t (inl (omega arith)))))

-- ---- turned down by odd bits

module _ (ws : List ℕ) (fit : Fit ws) (k : ℕ) where
  abbrev sunk : ℕ → Bool
  sunk = turned_down (64 * length ws) k (member ws)

  from_sunk : (i j q m : ℕ) → q < length ws → m < 64 → (64 * i + j + k ≡ 64 * q + m) ⊎ (64 * i + j + k ≡ 64 * q + m + 64 * length ws)
      → bit (get_or ws q 0) m ≡ sunk (64 * i + j)
  from_sunk i j q m hq hm e =
      sym (member-at ws q m hm) ∙ sym (sunk_by (64 * length ws) (member ws) k (64 * i + j) (64 * q + m) (omega arith) e)

  pub sunk_none : k ≡ 0 → ws ≡ words_of sunk (length ws)
  sunk_none e = words_is (length ws) sunk ws refl (λ i l. fit i) (λ i j l m. from_sunk i j i j l m (inl (omega arith)))

  -- one turn of the walk, from the bottom up
  pub down_step : (ws' : List ℕ) (i v : ℕ) → k < 64 → Swept ws (word_of sunk) 0 i ws' → i + 1 < length ws
      → v ≡ funneled 64 (get_or ws' i 0) (get_or ws' (i + 1) 0) k (64 - k) → Swept ws (word_of sunk) 0 (i + 1) (set ws' i v)
  down_step ws' i v h s l e =
      sweep_up ws (word_of sunk) 0 i ws' v s (omega (arith, s.long)) (omega arith)
      (e
      ∙ ap₂ (λ (x y : ℕ). funneled 64 x y k (64 - k)) (s.above i (omega arith)) (s.above (i + 1) (omega arith))
      ∙ funneled_is (get_or ws i 0) (get_or ws (i + 1) 0) k (64 - k) sunk i (fit i) (omega arith)
      (λ j r. from_sunk i j i (k + j) (omega arith) (omega arith) (inl (omega arith)))
      (λ j t r. from_sunk i j (i + 1) (j - (64 - k)) l (omega arith) (inl (omega arith))))

  -- the last turn, whose word stands below the old first one
  pub down_last : (ws' : List ℕ) (i end v : ℕ) → k < 64 → Swept ws (word_of sunk) 0 i ws' → i ≡ end → end + 1 ≡ length ws
      → v ≡ funneled 64 (get_or ws' end 0) (get_or ws 0 0) k (64 - k) → set ws' end v ≡ words_of sunk (length ws)
  down_last ws' i end v h s q l e =
      swept_all ws sunk (set ws' end v)
      (sweep_to ws (word_of sunk) 0 (end + 1) 0 (length ws) (set ws' end v)
      (sweep_up ws (word_of sunk) 0 end ws' v (sweep_to ws (word_of sunk) 0 i 0 end ws' s refl q) (omega (arith, s.long)) (omega arith)
      (e
      ∙ ap (λ (x : ℕ). funneled 64 x (get_or ws 0 0) k (64 - k)) (s.above end (omega arith))
      ∙ funneled_is (get_or ws end 0) (get_or ws 0 0) k (64 - k) sunk end (fit end) (omega arith)
      (λ j r. from_sunk end j end (k + j) (omega arith) (omega arith) (inl (omega arith)))
      (λ j t r. from_sunk end j 0 (j - (64 - k)) (omega arith) (omega arith) (inr (omega arith)))))
      refl l)

-- ---- whole words and then odd bits

module _ (ws w1 w2 : List ℕ) (fit : Fit ws) (whole : ℕ) (l1 : whole < length ws) (turned1 : w1 ≡ turned_words whole ws) where
  pos : 0 < length ws
  pos = omega arith

  e1 : w1 ≡ words_of (turned_up (64 * length ws) (64 * whole) (member ws)) (length ws)
  e1 = turned1 ∙ turn-whole ws fit (64 * whole) whole (omega arith) refl

  -- a set taken from the turned words by places, as a set taken from the words
  both : (g : ℕ → ℕ → ℕ) (t : ℕ → Bool) → ((i : ℕ) → g (64 * length ws) i < 64 * length ws) → w2 ≡ words_of (λ i. member w1 (g (64 * length w1) i)) (length w1)
      → ((i : ℕ) → i < 64 * length ws → turned_up (64 * length ws) (64 * whole) (member ws) (g (64 * length ws) i) ≡ t i) → w2 ≡ words_of t (length ws)
  both g t b e2 h =
      e2
      ∙ ap (λ (n : ℕ). words_of (λ i. member w1 (g (64 * n) i)) n) (ap length e1 ∙ length_words (turned_up (64 * length ws) (64 * whole) (member ws)) (length ws))
      ∙ words_ext (λ i. member w1 (g (64 * length ws) i)) t (length ws)
      (λ i l.
      ap (λ (w : List ℕ). member w (g (64 * length ws) i)) e1
      ∙ member_words (turned_up (64 * length ws) (64 * whole) (member ws)) (length ws) (g (64 * length ws) i) (b i) ∙ h i l)

  -- an amount's whole words and odd bits, within the length
  rest : (k : ℕ) → k % (64 * length ws) ≡ 64 * (k / 64 % length ws) + k % 64
  rest k =
      ap (λ (m : ℕ). k % m) (mul_comm 64 (length ws)) ∙ mod-mul k {m = length ws} {c = 64} pos (omega arith)
      ∙ ap (λ (m : ℕ). m + k % 64) (mul_comm (k / 64 % length ws) 64)

  pub turn_left_is : (k : ℕ) → whole ≡ k / 64 % length ws → w2 ≡ words_of (turned_up (64 * length w1) (k % 64) (member w1)) (length w1)
      → w2 ≡ words_of (turned_up (64 * length ws) k (member ws)) (length ws)
  unfolding turned_up
  turn_left_is k a e2 =
      both (λ len i. (i + (len - k % 64 % len)) % len) (turned_up (64 * length ws) k (member ws))
      (λ i. mod-lt (i + (64 * length ws - k % 64 % (64 * length ws))) (omega arith)) e2
      (λ i l.
      turned_twice (64 * length ws) (member ws) (64 * whole) (k % 64) i l
      ∙ ap (λ (m : ℕ). turned_up (64 * length ws) m (member ws) i) (omega (arith, rest k)) ∙ sym (turned_rest (64 * length ws) (member ws) k i))

  pub turn_right_is : (k : ℕ) → whole ≡ (length ws - k / 64 % length ws) % length ws → w2 ≡ words_of (turned_down (64 * length w1) (k % 64) (member w1)) (length w1)
      → w2 ≡ words_of (turned_down (64 * length ws) k (member ws)) (length ws)
  unfolding turned_down
  turn_right_is k a e2 =
      both (λ len i. (i + k % 64) % len) (turned_down (64 * length ws) k (member ws)) (λ i. mod-lt (i + k % 64) (omega arith)) e2
      (λ i l. turned_from (64 * length ws) (member ws) (64 * whole) ((i + k % 64) % (64 * length ws)) ((i + k) % (64 * length ws)) (mod-lt (i + k) (omega arith)) (at i))
    where
      w : ℕ
      w = k / 64 % length ws

      len : ℕ
      len = 64 * length ws

      round : (i : ℕ) → (i + (64 * w + k % 64) + 64 * whole) % len ≡ (i + k % 64) % len
      round i =
          by_eq w 0
          (λ z.
          let o : whole ≡ 0 = a ∙ ap (λ (m : ℕ). m % length ws) {y = length ws} (omega arith) ∙ mod_self (length ws) in
          ap (λ (m : ℕ). m % len) (omega arith))
          (λ z.
          let o : whole ≡ length ws - w = a ∙ mod-eq_of_lt (omega arith) in
          ap (λ (m : ℕ). m % len) (omega (arith, mod-lt (k / 64) {m = length ws} pos)) ∙ add-mod_right (i + k % 64) len)

      at : (i : ℕ) → ((i + k) % len + 64 * whole) % len ≡ (i + k % 64) % len
      at i =
          mod-add-mod (i + k) len (64 * whole)
          ∙ ap (λ (m : ℕ). m % len) (omega arith) ∙ sym (add-mod-mod (i + 64 * whole) k len)
          ∙ ap (λ (m : ℕ). m % len) (omega (arith, rest k)) ∙ round i
