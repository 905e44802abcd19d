-- What is promised of the three moves holds of their definitions, and what goes up or down as promised is the definition.
use mathlib.Core.Path.{◌≡◌, sym, ap, ◌∙◌}
use mathlib.Core.List.{List, ◌++◌, append-nil}
use Prim.Native.Nat.{ℕ, ◌+◌, ◌-◌, ◌≤◌, ◌<◌}
use native.Mathlib.Omega.{arith}
use lib.ListN.{length, get_or, take, drop, length-append, length-take, length-drop, get_or-append}
use lib.Seq.{get_or-take, get_or-drop, ext_get_or}
use Rattle.word.proofs.Cases.{by_lt}
use Rattle.word.proofs.Lists.{past}
use Rattle.moves.specs.Moves.{up_words, down_words, turned_words}
use Rattle.moves.specs.Promises.{GoesUp, MoveUpMeans, GoesDown, MoveDownMeans, TurnWordsMeans, UpAlone, DownAlone}
use Rattle.moves.proofs.Pieces.{get_d_after}

-- ---- up

module _ (whole : ℕ) (ws : List ℕ) where
  up_goes : (i : ℕ) → i + whole < length ws → get_or (up_words whole ws) (i + whole) 0 ≡ get_or ws i 0
  unfolding up_words
  up_goes i l =
      ap (λ (x : ℕ). get_or (up_words whole ws) x 0) {y = whole + i} (omega arith)
      ∙ get_d_after (take whole ws) (take (length ws - whole) ws) whole i (length-take whole ws ∙ omega arith)
      ∙ get_or-take (length ws - whole) ws i 0 (omega arith)

  up_long : length (up_words whole ws) ≡ length ws
  unfolding up_words
  up_long = length-append (take whole ws) (take (length ws - whole) ws) ∙ omega (arith, length-take whole ws, length-take (length ws - whole) ws)

  up_stays : (i : ℕ) → i < whole → get_or (up_words whole ws) i 0 ≡ get_or ws i 0
  unfolding up_words
  up_stays i l =
      by_lt i (length ws)
      (λ p. get_or-append (take whole ws) (take (length ws - whole) ws) 0 i (omega (arith, length-take whole ws)) ∙ get_or-take whole ws i 0 l)
      (λ p. past (up_words whole ws) i (omega (arith, up_long)) ∙ sym (past ws i p))

pub goes_up : MoveUpMeans
goes_up whole ws = record { long = up_long whole ws; goes = up_goes whole ws; stays = up_stays whole ws }

-- ---- down

module _ (whole : ℕ) (ws : List ℕ) where
  down_goes : (i : ℕ) → i + whole < length ws → get_or (down_words whole ws) i 0 ≡ get_or ws (i + whole) 0
  unfolding down_words
  down_goes i l =
      get_or-append (drop whole ws) (drop (length ws - whole) ws) 0 i (omega (arith, length-drop whole ws))
      ∙ get_or-drop whole ws i 0 ∙ ap (λ (x : ℕ). get_or ws x 0) (omega arith)

  down_stays : (i : ℕ) → length ws ≤ i + whole → get_or (down_words whole ws) i 0 ≡ get_or ws i 0
  unfolding down_words
  down_stays i l =
      ap (λ (x : ℕ). get_or (down_words whole ws) x 0) {y = length ws - whole + (i - (length ws - whole))} (omega arith)
      ∙ get_d_after (drop whole ws) (drop (length ws - whole) ws) (length ws - whole) (i - (length ws - whole)) (length-drop whole ws)
      ∙ get_or-drop (length ws - whole) ws (i - (length ws - whole)) 0 ∙ ap (λ (x : ℕ). get_or ws x 0) (omega arith)

  down_long : length (down_words whole ws) ≡ length ws
  unfolding down_words
  down_long = length-append (drop whole ws) (drop (length ws - whole) ws) ∙ omega (arith, length-drop whole ws, length-drop (length ws - whole) ws)

pub goes_down : MoveDownMeans
goes_down whole ws = record { long = down_long whole ws; goes = down_goes whole ws; stays = down_stays whole ws }

-- ---- turned

module _ (m : ℕ) (ws : List ℕ) where
  turned_goes : (i : ℕ) → i + m < length ws → get_or (turned_words m ws) (i + m) 0 ≡ get_or ws i 0
  unfolding turned_words
  turned_goes i l =
      ap (λ (x : ℕ). get_or (turned_words m ws) x 0) {y = m + i} (omega arith)
      ∙ get_d_after (drop (length ws - m) ws) (take (length ws - m) ws) m i (length-drop (length ws - m) ws ∙ omega arith)
      ∙ get_or-take (length ws - m) ws i 0 (omega arith)

  turned_wraps : (i j : ℕ) → m ≤ length ws → i < length ws → i + m ≡ length ws + j → get_or (turned_words m ws) j 0 ≡ get_or ws i 0
  unfolding turned_words
  turned_wraps i j h l e =
      get_or-append (drop (length ws - m) ws) (take (length ws - m) ws) 0 j (omega (arith, length-drop (length ws - m) ws))
      ∙ get_or-drop (length ws - m) ws j 0 ∙ ap (λ (x : ℕ). get_or ws x 0) (omega arith)

  turned_stays : length ws ≤ m → turned_words m ws ≡ ws
  unfolding turned_words
  turned_stays h = ap (λ (k : ℕ). drop k ws ++ take k ws) {x = length ws - m} {y = 0} (omega arith) ∙ append-nil ws

  turned_long : length (turned_words m ws) ≡ length ws
  unfolding turned_words
  turned_long =
      length-append (drop (length ws - m) ws) (take (length ws - m) ws) ∙ omega (arith, length-drop (length ws - m) ws, length-take (length ws - m) ws)

pub turned : TurnWordsMeans
turned m ws = record { long = turned_long m ws; goes = turned_goes m ws; wraps = turned_wraps m ws; stays = turned_stays m ws }

-- ---- up and down, of the list that a call leaves

pub gone_up : (whole : ℕ) (old new : List ℕ) → new ≡ up_words whole old → GoesUp whole old new
gone_up whole old new e = rw (e) (goes_up whole old)

pub gone_down : (whole : ℕ) (old new : List ℕ) → new ≡ down_words whole old → GoesDown whole old new
gone_down whole old new e = rw (e) (goes_down whole old)

-- by the place that a word comes to
pub came_up : (whole : ℕ) (old new : List ℕ) → GoesUp whole old new → (k : ℕ) → whole ≤ k → k < length old → get_or new k 0 ≡ get_or old (k - whole) 0
came_up whole old new s k h l = ap (λ (x : ℕ). get_or new x 0) {y = k - whole + whole} (omega arith) ∙ s.goes (k - whole) (omega arith)

-- no other list goes so
pub up_is : UpAlone
up_is whole old new s =
    ext_get_or 0 new (up_words whole old) (s.long ∙ sym t.long)
    (λ k l. by_lt k whole
    (λ p. s.stays k p ∙ sym (t.stays k p))
    (λ p. came_up whole old new s k p (omega (arith, s.long)) ∙ sym (came_up whole old (up_words whole old) t k p (omega (arith, s.long)))))
  where
    t : GoesUp whole old (up_words whole old)
    t = goes_up whole old

pub down_is : DownAlone
down_is whole old new s =
    ext_get_or 0 new (down_words whole old) (s.long ∙ sym t.long)
    (λ k l. by_lt (k + whole) (length old) (λ p. s.goes k p ∙ sym (t.goes k p)) (λ p. s.stays k p ∙ sym (t.stays k p)))
  where
    t : GoesDown whole old (down_words whole old)
    t = goes_down whole old
