-- Scans by eights and by single words: what is passed, and where they stop.
use Rattle.std.proofs.Common.{◌≡◌, ℕ, suc, ◌+◌, ◌-◌, ◌<◌, ◌≤◌, Bool, not, eqb, List, length, get_or, refl, sym, ap, ◌∙◌, arith, le-ltb, lt-ltb, eq-eqb, ne_eqb, eqb-true}
use borrow.Author.Tests.{eqb-false, not-true, not-false}
use Rattle.word.specs.Sets.{choose}
use Rattle.word.proofs.Cases.{by_lt, eqb_same}
use Rattle.word.proofs.Sets.{least, least_is, top, top_is}
use Rattle.word.proofs.Lists.{past}
use Rattle.arch.specs.Scans.{Alike, first_other, word_found, nonzero_len, is_zero}
use Rattle.std.specs.Prelude.{Option, Some, None}
use Rattle.std.specs.Option.{is_some}

-- ---- stretches of equal words

pub alike_none : (ws : List ℕ) (x a e : ℕ) → e ≤ a → Alike ws x a e
alike_none ws x a e h = record { at = λ k p q. absurd (omega arith) }

pub alike_join : {ws : List ℕ} {x a m n e : ℕ} → Alike ws x a m → Alike ws x n e → n ≤ m → Alike ws x a e
alike_join {ws} {x} {a} {m} s t h = record { at = λ k p q. by_lt k m (λ l. s.at k p l) (λ l. t.at k (omega arith) q) }

pub alike_one : (ws : List ℕ) (x k : ℕ) → get_or ws k 0 ≡ x → Alike ws x k (k + 1)
alike_one ws x k e = record { at = λ j p q. ap (λ (m : ℕ). get_or ws m 0) (omega arith) ∙ e }

pub alike_to : {ws : List ℕ} {x a e : ℕ} (a' e' : ℕ) → Alike ws x a e → a ≤ a' → e' ≤ e → Alike ws x a' e'
alike_to a' e' s p q = record { at = λ k l m. s.at k (omega arith) (omega arith) }

-- ---- the first other word

pub other_at : (ws : List ℕ) (x i : ℕ) → Alike ws x 0 i → i < length ws → (get_or ws i 0 ≡ x → ⊥) → i ≡ first_other x ws
unfolding first_other
other_at ws x i s h n =
    sym
    (least_is (λ k. not (eqb (get_or ws k 0) x)) 0 (length ws) i
    (record {
      from = omega arith;
      within = omega arith;
      here = λ l. ap not (ne_eqb (get_or ws i 0) x n);
      under = λ q a b. ap not (eq-eqb (get_or ws q 0) x (s.at q a b));
    }))

pub other_none : (ws : List ℕ) (x i : ℕ) → Alike ws x 0 i → length ws ≤ i → length ws ≡ first_other x ws
unfolding first_other
other_none ws x i s h =
    sym
    (least_is (λ k. not (eqb (get_or ws k 0) x)) 0 (length ws) (length ws)
    (record {
      from = omega arith;
      within = omega arith;
      here = λ l. absurd (omega arith);
      under = λ q a b. ap not (eq-eqb (get_or ws q 0) x (s.at q a (omega arith)));
    }))

first_other_le : (x : ℕ) (ws : List ℕ) → first_other x ws ≤ length ws
unfolding first_other
first_other_le x ws = omega (arith, (least (λ k. not (eqb (get_or ws k 0) x)) 0 (length ws)).within)

pub found_at : (ws : List ℕ) (i k : ℕ) → i ≡ k → i < length ws → Some (i, get_or ws i 0) ≡ word_found ws k
unfolding word_found
found_at ws i k e h = sym (ap (word_found ws) (sym e) ∙ ap (λ (t : Bool). choose t (Some (i, get_or ws i 0)) None) (lt-ltb i (length ws) h))

pub found_none : (ws : List ℕ) (i k : ℕ) → i ≡ k → length ws ≤ i → None ≡ word_found ws k
unfolding word_found
found_none ws i k e h = sym (ap (word_found ws) (sym e) ∙ ap (λ (t : Bool). choose t (Some (i, get_or ws i 0)) None) (le-ltb i (length ws) h))

-- ---- the length without trailing zero words

pub nonzero_at : (ws : List ℕ) (e : ℕ) → 0 < e → e ≤ length ws → Alike ws 0 e (length ws) → (get_or ws (e - 1) 0 ≡ 0 → ⊥) → e ≡ nonzero_len ws
unfolding nonzero_len
nonzero_at ws e p h s n =
    sym
    (top_is (λ k. not (eqb (get_or ws k 0) 0)) (length ws) e
    (record {
      within = h;
      last = λ k q. ap not (ap (λ (m : ℕ). eqb (get_or ws m 0) 0) (omega arith) ∙ ne_eqb (get_or ws (e - 1) 0) 0 n);
      over = λ k a b. ap not (eq-eqb (get_or ws k 0) 0 (s.at k a b));
    }))

pub nonzero_none : (ws : List ℕ) → Alike ws 0 0 (length ws) → 0 ≡ nonzero_len ws
unfolding nonzero_len
nonzero_none ws s =
    sym
    (top_is (λ k. not (eqb (get_or ws k 0) 0)) (length ws) 0
    (record {
      within = omega arith;
      last = λ k q. absurd (omega arith);
      over = λ k a b. ap not (eq-eqb (get_or ws k 0) 0 (s.at k a b));
    }))

pub nonzero_le : (ws : List ℕ) → nonzero_len ws ≤ length ws
unfolding nonzero_len
nonzero_le ws = (top (λ k. not (eqb (get_or ws k 0) 0)) (length ws)).within

-- every word past it is 0, and the last one below it is not
pub nonzero_past : (ws : List ℕ) (k : ℕ) → nonzero_len ws ≤ k → get_or ws k 0 ≡ 0
unfolding nonzero_len
nonzero_past ws k h =
    by_lt k (length ws)
    (λ l. eqb-true (get_or ws k 0) 0 (not-false (eqb (get_or ws k 0) 0) ((top (λ k. not (eqb (get_or ws k 0) 0)) (length ws)).over k h l)))
    (λ l. past ws k l)

pub nonzero_last : (ws : List ℕ) (k : ℕ) → suc k ≡ nonzero_len ws → get_or ws k 0 ≡ 0 → ⊥
unfolding nonzero_len
nonzero_last ws k e = eqb-false (get_or ws k 0) 0 (not-true (eqb (get_or ws k 0) 0) ((top (λ k. not (eqb (get_or ws k 0) 0)) (length ws)).last k e))

-- ---- no word at all is other than 0

pub zero_is : (ws : List ℕ) (i : ℕ) → i ≡ first_other 0 ws → eqb i (length ws) ≡ is_zero ws
unfolding first_other nonzero_len is_zero
zero_is ws i e =
    eqb_same i (length ws) (nonzero_len ws) 0
    (λ q.
    sym
    (nonzero_none ws
    (record {
      at = λ k a b.
          eqb-true (get_or ws k 0) 0 (not-false (eqb (get_or ws k 0) 0) ((least (other 0) 0 (length ws)).under k a (omega (arith, e))));
    })))
    (λ q.
    e ∙ sym
    (other_none ws 0 (length ws)
    (record { at = λ k a b. eqb-true (get_or ws k 0) 0 (not-false (eqb (get_or ws k 0) 0) ((top (other 0) (length ws)).over k (omega arith) b)) })
    (omega arith)))
  where
    other : ℕ → ℕ → Bool
    other x k = not (eqb (get_or ws k 0) x)

-- and nothing is found
pub none_found : (ws : List ℕ) (r : Option (ℕ × ℕ)) (b : Bool) → r ≡ word_found ws (first_other 0 ws) → is_some r ≡ not b → b ≡ is_zero ws
none_found ws r b e f =
    by_lt k (length ws)
    (λ l.
    not-true b (sym f ∙ ap is_some (e ∙ sym (found_at ws k k refl l)))
    ∙ sym (ne_eqb k (length ws) (λ q. omega arith)) ∙ zero_is ws k refl)
    (λ l.
    not-false b (sym f ∙ ap is_some (e ∙ sym (found_none ws k k refl l)))
    ∙ sym (eq-eqb k (length ws) (omega (arith, first_other_le 0 ws))) ∙ zero_is ws k refl)
  where
    k : ℕ
    k = first_other 0 ws
