-- What the walks of the shifts leave: each new word is made of two neighbours, and the words that nothing moves into are 0.
use mathlib.Core.Path.{◌≡◌, refl, sym, ap, ap₂, ◌∙◌}
use mathlib.Core.Bool.{Bool, false}
use mathlib.Core.List.{List}
use Prim.Native.Nat.{ℕ, ◌+◌, ◌-◌, ◌*◌, ◌/◌, ◌%◌, ◌^◌, ◌≤◌, ◌<◌}
use native.Mathlib.Omega.{arith}
use borrow.Author.Tests.{lt-ltb, le-ltb}
use lib.ListN.{length, get_or, set}
use Rattle.word.specs.Sets.{choose}
use Rattle.word.specs.Places.{bit, word_of, member, words_of}
use Rattle.word.specs.Words.{funneled, pair_bit}
use Rattle.word.proofs.Cases.{by_lt}
use Rattle.word.proofs.Places.{bit-zero, pack_is}
use Rattle.word.proofs.Words.{from_place}
use Rattle.word.proofs.Lists.{Fit, past, tab_is, member-at, member-past}
use Rattle.word.proofs.Sweep.{Swept, sweep_none, sweep_to, sweep_down, sweep_up}
use Rattle.arch.specs.Scans.{filled_words}
use Rattle.arch.proofs.Regions.{length-filled_words, filled_in, filled_below, filled_above}
use Rattle.shifts.specs.Shifts.{moved_up, moved_down}
use Rattle.moves.specs.Promises.{GoesUp, GoesDown}
use Rattle.moves.proofs.Promises.{came_up}
use Rattle.shifts.proofs.Cases.{moved_up_lem, moved_in}

-- ---- one word

-- a word made of two neighbours is a set's where its bits from each of them are
pub funneled_is : (lo hi down up : ℕ) (s : ℕ → Bool) (i : ℕ) → lo < 2 ^ 64 → down + up ≡ 64 → ((j : ℕ) → j < up → bit lo (down + j) ≡ s (64 * i + j))
    → ((j : ℕ) → j < 64 → up ≤ j → bit hi (j - up) ≡ s (64 * i + j)) → funneled 64 lo hi down up ≡ word_of s i
unfolding word_of pair_bit
funneled_is lo hi down up s i h e low high =
    let f = from_place 64 lo hi down up h e in
    pack_is 64 (funneled 64 lo hi down up) (λ j. s (64 * i + j)) f.fits
    (λ j l.
    f.at j l
    ∙ by_lt j up
    (λ p. ap (λ (t : Bool). choose t (bit lo (down + j)) (bit hi (down + j - 64))) (lt-ltb (down + j) 64 (omega arith)) ∙ low j p)
    (λ p.
    ap (λ (t : Bool). choose t (bit lo (down + j)) (bit hi (down + j - 64))) (le-ltb (down + j) 64 (omega arith))
    ∙ ap (bit hi) (omega arith) ∙ high j l p))

-- a word of a set with no member there
pub none_is : (s : ℕ → Bool) (i : ℕ) → ((j : ℕ) → j < 64 → s (64 * i + j) ≡ false) → 0 ≡ word_of s i
unfolding word_of
none_is s i h = pack_is 64 0 (λ j. s (64 * i + j)) (omega arith) (λ j l. bit-zero j ∙ sym (h j l))

-- ---- all words

-- a sweep of a set's words, and a fill with 0 where the set has no member: together they reach every word
pub fill_is : (old ws ws' : List ℕ) (s : ℕ → Bool) (a e b d : ℕ) → Swept old (word_of s) a e ws → ws' ≡ filled_words b d 0 ws
    → ((i : ℕ) → b ≤ i → i < d → 0 ≡ word_of s i) → ((i : ℕ) → i < length old → (i < b → (a ≤ i) × (i < e)) × (d ≤ i → (a ≤ i) × (i < e)))
    → ws' ≡ words_of s (length old)
unfolding words_of
fill_is old ws ws' s a e b d w f z c =
    tab_is (length old) (word_of s) ws' (ap length f ∙ length-filled_words b d 0 ws ∙ w.long) at
  where
    at : (i : ℕ) → i < length old → get_or ws' i 0 ≡ word_of s i
    at i l =
        ap (λ (y : List ℕ). get_or y i 0) f
        ∙ by_lt i b
        (λ p. filled_below b d 0 ws i p ∙ w.fresh i ((c i l).0 p).0 ((c i l).0 p).1)
        (λ p. by_lt i d
        (λ q. filled_in b d 0 ws i (omega (arith, w.long)) p q ∙ z i p q)
        (λ q. filled_above b d 0 ws i q ∙ w.fresh i ((c i l).1 q).0 ((c i l).1 q).1))

-- ---- moved up

module _ (ws : List ℕ) (fit : Fit ws) (k : ℕ) where
  abbrev left : ℕ → Bool
  left = moved_up k (member ws)

  -- place j of word i comes from place m of word q
  from_left : (i j q m : ℕ) → m < 64 → 64 * q + m + k ≡ 64 * i + j → bit (get_or ws q 0) m ≡ left (64 * i + j)
  from_left i j q m l e =
      sym (member-at ws q m l) ∙ ap (member ws) (omega arith) ∙ sym (moved_up_lem k (member ws) (64 * i + j) (omega arith))

  pub left_word : (i : ℕ) → k / 64 < i → funneled 64 (get_or ws (i - k / 64 - 1) 0) (get_or ws (i - k / 64) 0) (64 - k % 64) (k % 64) ≡ word_of left i
  left_word i h =
      funneled_is (get_or ws (i - k / 64 - 1) 0) (get_or ws (i - k / 64) 0) (64 - k % 64) (k % 64) left i (fit (i - k / 64 - 1)) (omega arith)
      (λ j p. from_left i j (i - k / 64 - 1) (64 - k % 64 + j) (omega arith) (omega arith))
      (λ j l p. from_left i j (i - k / 64) (j - k % 64) (omega arith) (omega arith))

  pub left_first : funneled 64 0 (get_or ws 0 0) (64 - k % 64) (k % 64) ≡ word_of left (k / 64)
  left_first =
      funneled_is 0 (get_or ws 0 0) (64 - k % 64) (k % 64) left (k / 64) (omega arith) (omega arith)
      (λ j p. bit-zero (64 - k % 64 + j) ∙ sym (moved_in k (member ws) (64 * (k / 64) + j) (omega arith)))
      (λ j l p. from_left (k / 64) j 0 (j - k % 64) (omega arith) (omega arith))

  pub left_none : (i : ℕ) → i < k / 64 → 0 ≡ word_of left i
  left_none i h = none_is left i (λ j l. moved_in k (member ws) (64 * i + j) (omega arith))

  -- one turn of the walk, from the top down: word i - 1
  pub left_step : (ws' : List ℕ) (i v : ℕ) → Swept ws (word_of left) i (length ws) ws' → k / 64 + 1 < i → i ≤ length ws
      → v ≡ funneled 64 (get_or ws' (i - 1 - k / 64 - 1) 0) (get_or ws' (i - 1 - k / 64) 0) (64 - k % 64) (k % 64)
      → Swept ws (word_of left) (i - 1) (length ws) (set ws' (i - 1) v)
  left_step ws' i v s h l e =
      sweep_down ws (word_of left) (i - 1) (length ws) ws' v (sweep_to ws (word_of left) i (length ws) (i - 1 + 1) (length ws) ws' s (omega arith) refl)
      (omega (arith, s.long)) (omega arith)
      (e
      ∙ ap₂ (λ (x y : ℕ). funneled 64 x y (64 - k % 64) (k % 64)) (s.below (i - 1 - k / 64 - 1) (omega arith)) (s.below (i - 1 - k / 64) (omega arith))
      ∙ left_word (i - 1) (omega arith))

  -- the last turn, whose word has nothing below it, and the words that nothing moves into
  pub left-last : (ws1 ws2 : List ℕ) (i v : ℕ) → Swept ws (word_of left) i (length ws) ws1 → i ≡ k / 64 + 1 → i ≤ length ws
      → v ≡ funneled 64 0 (get_or ws1 0 0) (64 - k % 64) (k % 64) → ws2 ≡ filled_words 0 (k / 64) 0 (set ws1 (k / 64) v) → ws2 ≡ words_of left (length ws)
  left-last ws1 ws2 i v s q l e f =
      fill_is ws (set ws1 (k / 64) v) ws2 left (k / 64) (length ws) 0 (k / 64)
      (sweep_down ws (word_of left) (k / 64) (length ws) ws1 v (sweep_to ws (word_of left) i (length ws) (k / 64 + 1) (length ws) ws1 s q refl)
      (omega (arith, s.long)) (omega arith)
      (e ∙ ap (λ (y : ℕ). funneled 64 0 y (64 - k % 64) (k % 64)) (s.below 0 (omega arith)) ∙ left_first))
      f (λ m a b. left_none m b) (λ m a. ((λ b. absurd (omega arith)), (λ b. (b, a))))

  -- by whole words alone
  pub left_moved : (w1 w2 : List ℕ) → GoesUp (k / 64) ws w1 → k % 64 ≡ 0 → k / 64 < length ws → w2 ≡ filled_words 0 (k / 64) 0 w1
      → w2 ≡ words_of left (length ws)
  unfolding word_of
  left_moved w1 w2 s e h f =
      fill_is ws w1 w2 left (k / 64) (length ws) 0 (k / 64)
      (record { long = s.long; fresh = word; below = s.stays; above = λ i l. past w1 i (omega (arith, s.long)) ∙ sym (past ws i l) })
      f (λ m a b. left_none m b) (λ m a. ((λ b. absurd (omega arith)), (λ b. (b, a))))
    where
      word : (i : ℕ) → k / 64 ≤ i → i < length ws → get_or w1 i 0 ≡ word_of left i
      word i a b =
          came_up (k / 64) ws w1 s i a b
          ∙ pack_is 64 (get_or ws (i - k / 64) 0) (λ j. left (64 * i + j)) (fit (i - k / 64)) (λ j l. from_left i j (i - k / 64) j l (omega arith))

  -- every bit passes the end
  pub left_out : (ws' : List ℕ) → length ws ≤ k / 64 → ws' ≡ filled_words 0 (length ws) 0 ws → ws' ≡ words_of left (length ws)
  left_out ws' h f =
      fill_is ws ws ws' left 0 0 0 (length ws) (sweep_none ws (word_of left) 0) f (λ m a b. left_none m (omega arith))
      (λ m a. ((λ b. absurd (omega arith)), (λ b. absurd (omega arith))))

-- ---- moved down

module _ (ws : List ℕ) (fit : Fit ws) (k : ℕ) where
  abbrev right : ℕ → Bool
  right = moved_down k (member ws)

  from_right : (i j q m : ℕ) → m < 64 → 64 * q + m ≡ 64 * i + j + k → bit (get_or ws q 0) m ≡ right (64 * i + j)
  unfolding moved_down
  from_right i j q m l e = sym (member-at ws q m l) ∙ ap (member ws) e

  pub right_word : (i : ℕ) → funneled 64 (get_or ws (i + k / 64) 0) (get_or ws (i + k / 64 + 1) 0) (k % 64) (64 - k % 64) ≡ word_of right i
  right_word i =
      funneled_is (get_or ws (i + k / 64) 0) (get_or ws (i + k / 64 + 1) 0) (k % 64) (64 - k % 64) right i (fit (i + k / 64)) (omega arith)
      (λ j p. from_right i j (i + k / 64) (k % 64 + j) (omega arith) (omega arith))
      (λ j l p. from_right i j (i + k / 64 + 1) (j - (64 - k % 64)) (omega arith) (omega arith))

  pub right_none : (i : ℕ) → length ws ≤ i + k / 64 → 0 ≡ word_of right i
  unfolding moved_down
  right_none i h = none_is right i (λ j l. member-past ws (64 * i + j + k) (omega arith))

  -- one turn of the walk, from the bottom up
  pub right_step : (ws' : List ℕ) (i v : ℕ) → Swept ws (word_of right) 0 i ws' → i + k / 64 + 1 < length ws
      → v ≡ funneled 64 (get_or ws' (i + k / 64) 0) (get_or ws' (i + k / 64 + 1) 0) (k % 64) (64 - k % 64) → Swept ws (word_of right) 0 (i + 1) (set ws' i v)
  right_step ws' i v s h e =
      sweep_up ws (word_of right) 0 i ws' v s (omega (arith, s.long)) (omega arith)
      (e
      ∙ ap₂ (λ (x y : ℕ). funneled 64 x y (k % 64) (64 - k % 64)) (s.above (i + k / 64) (omega arith)) (s.above (i + k / 64 + 1) (omega arith))
      ∙ right_word i)

  -- the last turn, whose word has nothing above it, and the words that nothing moves into
  pub right_last : (ws1 ws2 : List ℕ) (i last v : ℕ) → Swept ws (word_of right) 0 i ws1 → i ≡ last → last + k / 64 + 1 ≡ length ws
      → v ≡ funneled 64 (get_or ws1 (length ws - 1) 0) 0 (k % 64) (64 - k % 64) → ws2 ≡ filled_words (last + 1) (length ws) 0 (set ws1 last v)
      → ws2 ≡ words_of right (length ws)
  right_last ws1 ws2 i last v s q h e f =
      fill_is ws (set ws1 last v) ws2 right 0 (last + 1) (last + 1) (length ws)
      (sweep_up ws (word_of right) 0 last ws1 v (sweep_to ws (word_of right) 0 i 0 last ws1 s refl q) (omega (arith, s.long)) (omega arith)
      (e
      ∙ ap₂ (λ (x y : ℕ). funneled 64 x y (k % 64) (64 - k % 64))
      (s.above (length ws - 1) (omega arith) ∙ ap (λ (m : ℕ). get_or ws m 0) (omega arith)) (sym (past ws (last + k / 64 + 1) (omega arith)))
      ∙ right_word last))
      f (λ m a b. right_none m (omega arith)) (λ m a. ((λ b. (omega arith, b)), (λ b. absurd (omega arith))))

  -- by whole words alone
  pub right_moved : (w1 w2 : List ℕ) → GoesDown (k / 64) ws w1 → k % 64 ≡ 0 → k / 64 < length ws
      → w2 ≡ filled_words (length ws - k / 64) (length ws) 0 w1 → w2 ≡ words_of right (length ws)
  unfolding word_of
  right_moved w1 w2 s e h f =
      fill_is ws w1 w2 right 0 (length ws - k / 64) (length ws - k / 64) (length ws)
      (record { long = s.long; fresh = word; below = λ i l. absurd (omega arith); above = λ i l. s.stays i (omega arith) })
      f (λ m a b. right_none m (omega arith)) (λ m a. ((λ b. (omega arith, b)), (λ b. absurd (omega arith))))
    where
      word : (i : ℕ) → 0 ≤ i → i < length ws - k / 64 → get_or w1 i 0 ≡ word_of right i
      word i a b =
          s.goes i (omega arith)
          ∙ pack_is 64 (get_or ws (i + k / 64) 0) (λ j. right (64 * i + j)) (fit (i + k / 64)) (λ j l. from_right i j (i + k / 64) j l (omega arith))

  -- every bit is below k
  pub right_out : (ws' : List ℕ) → length ws ≤ k / 64 → ws' ≡ filled_words 0 (length ws) 0 ws → ws' ≡ words_of right (length ws)
  right_out ws' h f =
      fill_is ws ws ws' right 0 0 0 (length ws) (sweep_none ws (word_of right) 0) f (λ m a b. right_none m (omega arith))
      (λ m a. ((λ b. absurd (omega arith)), (λ b. absurd (omega arith))))
