-- What a loop leaves that stores one word a turn: the words from a up to e are new, the others are old.
use Rattle.std.proofs.Common.{◌≡◌, ℕ, ◌+◌, ◌-◌, ◌*◌, ◌^◌, ◌<◌, ◌≤◌, Bool, List, ◌++◌, length, get_or, take, drop, set, sym, refl, ap, ◌∙◌, subst, arith, length-append, length-drop, length-set, length-take-le, get_or-drop, get_or-set_other, get_or-take, get_or-set_same, get_or-append-add}
use lib.ListN.{get_or-append}
use Rattle.word.specs.Places.{bit, words_of}
use Rattle.word.proofs.Cases.{by_eq}
use Rattle.word.proofs.Lists.{words_is}

-- a stored word, at any index
pub get_d_set : (ws : List ℕ) (i k v : ℕ) → i < length ws → k ≡ i → get_or (set ws i v) k 0 ≡ v
get_d_set ws i k v h e = ap (λ (m : ℕ). get_or (set ws i v) m 0) e ∙ get_or-set_same ws i v 0 h

pub record Swept (old : List ℕ) (new : ℕ → ℕ) (a e : ℕ) (ws : List ℕ) : Type 0 where
  pub long : length ws ≡ length old
  pub fresh : (k : ℕ) → a ≤ k → k < e → get_or ws k 0 ≡ new k
  pub below : (k : ℕ) → k < a → get_or ws k 0 ≡ get_or old k 0
  pub above : (k : ℕ) → e ≤ k → get_or ws k 0 ≡ get_or old k 0

pub sweep_none : (old : List ℕ) (new : ℕ → ℕ) (a : ℕ) → Swept old new a a old
sweep_none old new a = record { long = refl; fresh = λ k p q. absurd (omega arith); below = λ k p. refl; above = λ k p. refl }

-- the ends, by equations
pub sweep_to : (old : List ℕ) (new : ℕ → ℕ) (a e a' e' : ℕ) (ws : List ℕ) → Swept old new a e ws → a ≡ a' → e ≡ e' → Swept old new a' e' ws
sweep_to old new a e a' e' ws s p q = rw (← p, ← q) s

-- one more word at the upper end
pub sweep_up : (old : List ℕ) (new : ℕ → ℕ) (a e : ℕ) (ws : List ℕ) (v : ℕ) → Swept old new a e ws → e < length ws → a ≤ e → v ≡ new e
    → Swept old new a (e + 1) (set ws e v)
sweep_up old new a e ws v s h l q = record {
  long = length-set ws e v ∙ s.long;
  fresh = λ k p r.
      by_eq k e (λ x. get_d_set ws e k v h x ∙ q ∙ ap new (sym x)) (λ x. get_or-set_other ws e k v 0 x ∙ s.fresh k p (omega arith));
  below = λ k p. get_or-set_other ws e k v 0 (omega arith) ∙ s.below k p;
  above = λ k p. get_or-set_other ws e k v 0 (omega arith) ∙ s.above k (omega arith);
}

-- one more word at the lower end
pub sweep_down : (old : List ℕ) (new : ℕ → ℕ) (a e : ℕ) (ws : List ℕ) (v : ℕ) → Swept old new (a + 1) e ws → a < length ws → a < e → v ≡ new a
    → Swept old new a e (set ws a v)
sweep_down old new a e ws v s h l q = record {
  long = length-set ws a v ∙ s.long;
  fresh = λ k p r.
      by_eq k a (λ x. get_d_set ws a k v h x ∙ q ∙ ap new (sym x)) (λ x. get_or-set_other ws a k v 0 x ∙ s.fresh k (omega arith) r);
  below = λ k p. get_or-set_other ws a k v 0 (omega arith) ∙ s.below k (omega arith);
  above = λ k p. get_or-set_other ws a k v 0 (omega arith) ∙ s.above k p;
}

-- every word swept: the words of a set where each new word has the set's bits
pub swept_words : (old : List ℕ) (new : ℕ → ℕ) (s : ℕ → Bool) (e : ℕ) (ws : List ℕ) → Swept old new 0 e ws → length old ≤ e
    → ((k : ℕ) → k < length old → new k < 2 ^ 64) → ((k j : ℕ) → k < length old → j < 64 → bit (new k) j ≡ s (64 * k + j)) → ws ≡ words_of s (length old)
swept_words old new s e ws w h f g =
    words_is (length old) s ws w.long
    (λ k l. subst (λ (x : ℕ). x < 2 ^ 64) (sym (w.fresh k (omega arith) (omega arith))) (f k l))
    (λ k j l m. ap (λ (x : ℕ). bit x j) (w.fresh k (omega arith) (omega arith)) ∙ g k j l m)

-- ---- a part of the words, a to e, put back: it was swept

pub part_at : (ws : List ℕ) (a e k : ℕ) → a ≤ k → k < e → get_or (take (e - a) (drop a ws)) (k - a) 0 ≡ get_or ws k 0
part_at ws a e k p q = get_or-take (e - a) (drop a ws) (k - a) 0 (omega arith) ∙ get_or-drop a ws (k - a) 0 ∙ ap (λ (x : ℕ). get_or ws x 0) (omega arith)

pub part_long : (ws : List ℕ) (a e : ℕ) → e ≤ length ws → length (take (e - a) (drop a ws)) ≡ e - a
part_long ws a e h = length-take-le (e - a) (drop a ws) (omega (arith, length-drop a ws))

pub part_swept : (ws part : List ℕ) (a e : ℕ) → a ≤ e → e ≤ length ws → length part ≡ e - a
    → Swept ws (λ k. get_or part (k - a) 0) a e (take a ws ++ (part ++ drop (e - a) (drop a ws)))
part_swept ws part a e p q l = record {
  long = length-append (take a ws) (part ++ rest) ∙ omega (arith, front, length-append part rest, l, length-drop (e - a) (drop a ws), length-drop a ws);
  fresh = λ k m n.
      ap (λ (x : ℕ). get_or (take a ws ++ (part ++ rest)) x 0) (omega (arith, front)) ∙ get_or-append-add (take a ws) (part ++ rest) (k - a) 0
      ∙ get_or-append part rest 0 (k - a) (omega arith);
  below = λ k m. get_or-append (take a ws) (part ++ rest) 0 k (omega (arith, front)) ∙ get_or-take a ws k 0 m;
  above = λ k m.
      ap (λ (x : ℕ). get_or (take a ws ++ (part ++ rest)) x 0) (omega (arith, front)) ∙ get_or-append-add (take a ws) (part ++ rest) (k - a) 0
      ∙ ap (λ (x : ℕ). get_or (part ++ rest) x 0) (omega (arith, l)) ∙ get_or-append-add part rest (k - e) 0
      ∙ get_or-drop (e - a) (drop a ws) (k - e) 0 ∙ get_or-drop a ws (e - a + (k - e)) 0 ∙ ap (λ (x : ℕ). get_or ws x 0) (omega arith);
}
  where
    rest : List ℕ
    rest = drop (e - a) (drop a ws)

    front : length (take a ws) ≡ a
    front = length-take-le a ws (omega arith)
