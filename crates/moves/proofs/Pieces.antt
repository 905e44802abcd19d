-- Words that are moved by pieces.
use mathlib.Core.Path.{◌≡◌, refl, sym, ap, ◌∙◌}
use mathlib.Core.List.{List, ◌++◌}
use Prim.Native.Nat.{ℕ, ◌+◌, ◌-◌, ◌≤◌}
use native.Mathlib.Omega.{arith}
use lib.ListN.{length, get_or}
use lib.Seq.{get_or-append-add}
use Rattle.word.proofs.Cases.{by_lt}
use Rattle.moves.specs.Kernels.{Moved}
use Rattle.moves.specs.Promises.{GoesUp, GoesDown}

pub get_d_after : (xs ys : List ℕ) (n i : ℕ) → length xs ≡ n → get_or (xs ++ ys) (n + i) 0 ≡ get_or ys i 0
get_d_after xs ys n i e = ap (λ (m : ℕ). get_or (xs ++ ys) (m + i) 0) (sym e) ∙ get_or-append-add xs ys i 0

pub move_none : (a b m : ℕ) (ws : List ℕ) → m ≡ 0 → Moved a b m ws ws
move_none a b m ws e = record { long = refl; moved = λ i l. absurd (omega arith); below = λ i l. refl; above = λ i l. refl }

-- the indices, by equations
pub moved_to : {a b m a' b' m' : ℕ} {old new : List ℕ} → Moved a b m old new → a ≡ a' → b ≡ b' → m ≡ m' → Moved a' b' m' old new
moved_to s p q r = rw (← p, ← q, ← r) s

-- a piece below those that have moved up
pub moved_up-more : (left q m n : ℕ) (old w1 w2 : List ℕ) → m ≤ left → left + q ≤ n → Moved left (left + q) (n - q - left) old w1
    → Moved (left - m) (left - m + q) m w1 w2 → Moved (left - m) (left - m + q) (n - q - (left - m)) old w2
moved_up-more left q m n old w1 w2 h r s t = record {
  long = t.long ∙ s.long;
  moved = λ i l.
      by_lt i m
      (λ p. t.moved i p ∙ s.below (left - m + i) (omega arith))
      (λ p.
      t.above (left - m + q + i) (omega arith) ∙ ap (λ (x : ℕ). get_or w1 x 0) {y = left + q + (i - m)} (omega arith)
      ∙ s.moved (i - m) (omega arith) ∙ ap (λ (x : ℕ). get_or old x 0) (omega arith));
  below = λ i l. t.below i l ∙ s.below i (omega arith);
  above = λ i l. t.above i (omega arith) ∙ s.above i (omega arith);
}

-- a piece above those that have moved down
pub moved_down-more : (q i m : ℕ) (old w1 w2 : List ℕ) → Moved q 0 i old w1 → Moved (i + q) i m w1 w2 → Moved q 0 (i + m) old w2
moved_down-more q i m old w1 w2 s t = record {
  long = t.long ∙ s.long;
  moved = λ k l.
      by_lt k i
      (λ p. t.below (0 + k) (omega arith) ∙ s.moved k p)
      (λ p.
      ap (λ (x : ℕ). get_or w2 x 0) {y = i + (k - i)} (omega arith) ∙ t.moved (k - i) (omega arith)
      ∙ s.above (i + q + (k - i)) (omega arith) ∙ ap (λ (x : ℕ). get_or old x 0) (omega arith));
  below = λ k l. absurd (omega arith);
  above = λ k l. t.above k (omega arith) ∙ s.above k (omega arith);
}

-- all pieces moved
pub moved_up-all : (whole left : ℕ) (old new : List ℕ) → Moved left (left + whole) (length old - whole - left) old new → left ≡ 0 → GoesUp whole old new
moved_up-all whole left old new s e = record {
  long = s.long;
  goes = λ i l.
      ap (λ (x : ℕ). get_or new x 0) {y = left + whole + i} (omega arith) ∙ s.moved i (omega arith) ∙ ap (λ (x : ℕ). get_or old x 0) (omega arith);
  stays = λ i l. s.below i (omega arith);
}

pub moved_down-all : (whole i : ℕ) (old new : List ℕ) → Moved whole 0 i old new → i ≡ length old - whole → GoesDown whole old new
moved_down-all whole i old new s e = record {
  long = s.long;
  goes = λ k l. ap (λ (x : ℕ). get_or new x 0) {y = 0 + k} (omega arith) ∙ s.moved k (omega arith) ∙ ap (λ (x : ℕ). get_or old x 0) (omega arith);
  stays = λ k l. s.above k (omega arith);
}
