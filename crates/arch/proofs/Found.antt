-- What searches of a slice find, and eights of words as words.
use Rattle.std.proofs.Common.{◌≡◌, ℕ, zero, suc, ◌+◌, ◌-◌, ◌*◌, ◌/◌, ◌%◌, ◌<◌, ◌≤◌, Bool, true, false, List, [], length, get_or, take, drop, refl, sym, ap, ◌∙◌, subst, arith, Bor, get_or-take, get_or-drop, length-take-le, Iter}
use Rattle.std.proofs.lemmas.List.{drop-drop}
use Rattle.std.specs.Prelude.{Option, Some, None, MatchOption, IfSome, IsSomeAnd}
use Rattle.std.specs.List.{AllWithin, HoldsAt}
use Rattle.std.specs.Option.{option_map, unwrap_or}
use Rattle.std.specs.Simd.{first_chunks}
use Rattle.std.specs.Slice.Iter.{iter_rest, iter_steps_back}
use Rattle.std.specs.Iterator.Adapters.{IterYieldsInReverse}
use Rattle.std.specs.Iterator.Runs.{SomeRun, CallKeepsClosure, AllItemsGive, IsFirstToGive, ItemsMapToReversed}
use denote.Param.Members.{Mut, Called}
use Rattle.arch.specs.Scans.{Alike, nonzero_len}
use Rattle.arch.proofs.Scans.{alike_to, alike_join, nonzero_at, nonzero_none}

-- ---- the last element that a closure takes

pick : {X : Type 0} (o : Option (Bor X)) (z : X) (P : Bor X → Type 0) → option_map (λ y. y.now) o ≡ Some z → IfSome o P → (y : Bor X) × P y × (y.now ≡ z)
pick None z P e p = absurd (cc)
pick (Some y) z P e p = (y, p, cc)

taken : {A : Type 0} (o : Option A) (P : A → Type 0) → IsSomeAnd o P → IfSome o P
taken None P p = absurd p
taken (Some x) P p = p

module _ {X F : Type 0} (g : Mut F (Bor X × Unit {0}) Bool) (f : F) (Yes No : X → Type 0) where
  pub last_from_rposition : (s : Iter X) (xs : List X) (r : Option ℕ) → iter_rest s ≡ xs → IterYieldsInReverse X → IfSome r (λ i. i < length (iter_rest s))
      → SomeRun (iter_steps_back {A = X}) s
      (λ u. MatchOption r ((u.whole ≡ true) × AllItemsGive u g f false)
      (λ i. (i + u.len ≡ length (iter_rest s)) × IsFirstToGive u g f true false (length (iter_rest s) - 1 - i)))
      → CallKeepsClosure g f
      → ((x : Bor X) → Called g f (x, tt) true f → Yes x.now)
      → ((x : Bor X) → Called g f (x, tt) false f → No x.now)
      → MatchOption r (AllWithin No xs 0 (length xs)) (λ i. (i < length xs) × HoldsAt Yes xs i × AllWithin No xs (i + 1) (length xs))
  last_from_rposition s xs r e back bound (u, from, ran) keeps hit miss = go r (rw e at bound) (rw e at ran)
    where
      n : ℕ
      n = length xs

      items : ItemsMapToReversed u (λ y. y.now) xs
      items = subst (λ (ys : List X). ItemsMapToReversed u (λ y. y.now) ys) (ap iter_rest from ∙ e) (back u u.seen)

      at : (P : Bor X → Type 0) (Q : X → Type 0) → ((y : Bor X) → P y → Q y.now) → (k : ℕ) (d : X) → k < n → n - 1 - k < u.len → IfSome (u.at (n - 1 - k)) P → Q (get_or xs k d)
      at P Q h k d l m p =
          let found : (y : Bor X) × P y × (y.now ≡ get_or xs k d) = pick (u.at (n - 1 - k)) (get_or xs k d) P (items.2 k d l m) p in
          subst Q found.2 (h found.0 found.1)

      go : (r : Option ℕ) → IfSome r (λ i. i < n)
          → MatchOption r ((u.whole ≡ true) × AllItemsGive u g f false) (λ i. (i + u.len ≡ n) × IsFirstToGive u g f true false (n - 1 - i))
          → MatchOption r (AllWithin No xs 0 n) (λ i. (i < n) × HoldsAt Yes xs i × AllWithin No xs (i + 1) n)
      go None b m = λ k d a l. at (λ x. Called g f (x, tt) false f) No miss k d l (omega (arith, items.1 m.0)) (m.1 keeps (n - 1 - k))
      go (Some i) b m = (
        b,
        (λ d. at (λ x. Called g f (x, tt) true f) Yes hit i d b (omega arith) (taken (u.at (n - 1 - i)) (λ x. Called g f (x, tt) true f) (m.1 keeps).0)),
        (λ k d a l.
            at (λ x. Called g f (x, tt) false f) No miss k d l (omega arith)
            (taken (u.at (n - 1 - k)) (λ x. Called g f (x, tt) false f) ((m.1 keeps).1 (n - 1 - k) (omega arith)))),
      )

-- ---- eights of words

eight_at : (n k : ℕ) (ws d : _) → k < n → get_or (first_chunks {X = ℕ} 8 n ws) k d ≡ take 8 (drop (8 * k) ws)
eight_at zero k ws d h = absurd (omega arith)
eight_at (suc n) zero ws d h = refl
eight_at (suc n) (suc k) ws d h = eight_at n k (drop 8 ws) d (omega arith) ∙ ap (take 8) (drop-drop (8 * k) 8 ws ∙ ap (λ (m : ℕ). drop m ws) (omega arith))

-- where the eights from eight a on, below eight e, are all x, so are their words
pub eights_alike : (ws : List ℕ) (x n a e : ℕ) → e ≤ n → AllWithin (λ eight. Alike eight x 0 8) (first_chunks 8 n ws) a e → Alike ws x (8 * a) (8 * e)
eights_alike ws x n a e h s = record {
  at = λ k p q.
      let eight : Alike (get_or (first_chunks 8 n ws) (k / 8) []) x 0 8 = s (k / 8) [] (omega arith) (omega arith) in
      ap (λ (m : ℕ). get_or ws m 0) (omega arith)
      ∙ sym (get_or-drop (8 * (k / 8)) ws (k % 8) 0)
      ∙ sym (get_or-take 8 (drop (8 * (k / 8)) ws) (k % 8) 0 (omega arith))
      ∙ ap (λ (ys : List ℕ). get_or ys (k % 8) 0) (sym (eight_at n (k / 8) ws [] (omega arith)))
      ∙ eight.at (k % 8) (omega arith) (omega arith);
}

-- the words that a search of eights from the front passes
pub eights_passed : (ws : List ℕ) (x : ℕ) (eights : List (List ℕ)) (Yes : ℕ → Type 0) (r : Option ℕ) → eights ≡ first_chunks 8 (length ws / 8) ws → length eights ≡ length ws / 8
    → MatchOption r (AllWithin (λ eight. Alike eight x 0 8) eights 0 (length eights)) (λ i. (i < length eights) × Yes i × AllWithin (λ eight. Alike eight x 0 8) eights 0 i)
    → (8 * unwrap_or r (length eights) ≤ length ws) × Alike ws x 0 (8 * unwrap_or r (length eights))
eights_passed ws x eights Yes r e l m = (omega (arith, (go r m).0), eights_alike ws x (length ws / 8) 0 n (omega (arith, (go r m).0)) (subst (λ (es : List (List ℕ)). AllWithin (λ eight. Alike eight x 0 8) es 0 n) e (go r m).1))
  where
    n : ℕ
    n = unwrap_or r (length eights)

    go : (r : Option ℕ)
        → MatchOption r (AllWithin (λ eight. Alike eight x 0 8) eights 0 (length eights)) (λ i. (i < length eights) × Yes i × AllWithin (λ eight. Alike eight x 0 8) eights 0 i)
        → (unwrap_or r (length eights) ≤ length eights) × AllWithin (λ eight. Alike eight x 0 8) eights 0 (unwrap_or r (length eights))
    go None m = (omega arith, m)
    go (Some i) m = (omega (arith, m.0), m.2)

-- eights behind `first` words: those that a search from the back passes
pub eights_left : (ws : List ℕ) (first : ℕ) (eights : List (List ℕ)) (Yes : ℕ → Type 0) (r : Option ℕ) → first ≡ length ws % 8
    → eights ≡ first_chunks 8 (length ws / 8) (drop (length ws % 8) ws) → length eights ≡ length ws / 8
    → MatchOption r (AllWithin (λ eight. Alike eight 0 0 8) eights 0 (length eights))
    (λ i. (i < length eights) × Yes i × AllWithin (λ eight. Alike eight 0 0 8) eights (i + 1) (length eights))
    → MatchOption r ((first ≤ length ws) × Alike ws 0 first (length ws))
    (λ i. (first + 8 * (i + 1) ≤ length ws) × Alike ws 0 (first + 8 * (i + 1)) (length ws))
eights_left ws first eights Yes r f e l = go r
  where
    m : ℕ
    m = length ws % 8

    zeros : (end : ℕ) → AllWithin (λ eight. Alike eight 0 0 8) eights end (length eights) → Alike ws 0 (first + 8 * end) (length ws)
    zeros end s =
        let all : Alike (drop m ws) 0 (8 * end) (8 * length eights) =
        eights_alike (drop m ws) 0 (length ws / 8) end (length eights) (omega arith)
        (subst (λ (es : List (List ℕ)). AllWithin (λ eight. Alike eight 0 0 8) es end (length eights)) e s) in
        record { at = λ k p q. ap (λ (n : ℕ). get_or ws n 0) (omega arith) ∙ sym (get_or-drop m ws (k - m) 0) ∙ all.at (k - m) (omega arith) (omega arith) }

    go : (r : Option ℕ)
        → MatchOption r (AllWithin (λ eight. Alike eight 0 0 8) eights 0 (length eights))
        (λ i. (i < length eights) × Yes i × AllWithin (λ eight. Alike eight 0 0 8) eights (i + 1) (length eights))
        → MatchOption r ((first ≤ length ws) × Alike ws 0 first (length ws))
        (λ i. (first + 8 * (i + 1) ≤ length ws) × Alike ws 0 (first + 8 * (i + 1)) (length ws))
    go None s = (omega arith, alike_to first (length ws) (zeros 0 s) (omega arith) (omega arith))
    go (Some i) s = (omega (arith, s.0), zeros (i + 1) s.2)

-- a search from the back for a word other than 0 below m, where those from m on are 0
pub left_in_rest : (ws : List ℕ) (m : ℕ) (r : Option ℕ) → m ≤ length ws → Alike ws 0 m (length ws)
    → MatchOption r (AllWithin (λ w. w ≡ 0) (take m ws) 0 (length (take m ws)))
    (λ i. (i < length (take m ws)) × HoldsAt (λ w. w ≡ 0 → ⊥) (take m ws) i × AllWithin (λ w. w ≡ 0) (take m ws) (i + 1) (length (take m ws)))
    → MatchOption r (0 ≡ nonzero_len ws) (λ i. i + 1 ≡ nonzero_len ws)
left_in_rest ws m r h s = go r
  where
    long : length (take m ws) ≡ m
    long = length-take-le m ws h

    zeros : (end : ℕ) → AllWithin (λ w. w ≡ 0) (take m ws) end (length (take m ws)) → Alike ws 0 end (length ws)
    zeros end all = alike_join (record { at = λ k p q. sym (get_or-take m ws k 0 q) ∙ all k 0 p (omega (arith, long)) }) s (omega arith)

    go : (r : Option ℕ)
        → MatchOption r (AllWithin (λ w. w ≡ 0) (take m ws) 0 (length (take m ws)))
        (λ i. (i < length (take m ws)) × HoldsAt (λ w. w ≡ 0 → ⊥) (take m ws) i × AllWithin (λ w. w ≡ 0) (take m ws) (i + 1) (length (take m ws)))
        → MatchOption r (0 ≡ nonzero_len ws) (λ i. i + 1 ≡ nonzero_len ws)
    go None f = nonzero_none ws (zeros 0 f)
    go (Some i) f =
        nonzero_at ws (i + 1) (omega arith) (omega (arith, long, f.0)) (zeros (i + 1) f.2)
        (λ e. f.1 0 (get_or-take m ws i 0 (omega (arith, long, f.0)) ∙ ap (λ (n : ℕ). get_or ws n 0) (omega arith) ∙ e))
