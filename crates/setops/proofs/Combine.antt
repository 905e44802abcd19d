-- The set operations in place, by the words that an operation makes.
use mathlib.Core.Path.{◌≡◌, refl, sym, ap, ◌∙◌, subst}
use mathlib.Core.List.{List}
use mathlib.Core.Logic.{◌⊎◌, inl, inr}
use Prim.Native.Nat.{ℕ, suc, ◌-◌, ◌≤◌, ◌<◌, min, max}
use native.Mathlib.Nat.{le_antisymm}
use native.Mathlib.Omega.{arith}
use lib.ListN.{length, get_or, take}
use lib.Seq.{length-take-le, get_or-take}
use Rattle.word.proofs.Cases.{by_lt}
use Rattle.word.proofs.Lists.{Fit, past, fit_part}
use Rattle.arch.specs.Scans.{nonzero_len}
use Rattle.arch.proofs.Scans.{nonzero_le, nonzero_past, nonzero_last}
use Rattle.pairs.specs.Pairs.{word_by, words_by, end_by}
use Rattle.pairs.specs.declared.SetOp.{SetOp}
use Rattle.pairs.specs.declared.SetOp.TheVariants.{Or}
use Rattle.pairs.proofs.Tables.{end_top, end_first, end_second, by_at, by_fit, by_nonzero}
use Rattle.storage.specs.Stores.{Bits, Op, Outcome, with_count, view, held, beside, within, zeroed, Leaves, Changes}
use Rattle.storage.specs.Guards.{PassedTwo}
use Rattle.storage.specs.Kernels.{Put}
use Rattle.storage.specs.declared.Bitmap.{Bitmap}
use Rattle.storage.specs.declared.Refusal.TheVariants.{NoSpace}
use Rattle.storage.proofs.Checks.{beside_ok}
use Rattle.storage.proofs.Stores.{outcome_ok, length-zeroed, zeroed_in, zeroed_out, zeroed_fit}
use Rattle.storage.proofs.Combined.{made_words, fewest_words, all_words_lem, all_hold, put_leaves, put_lacks}
use Rattle.setops.specs.Setops.{combining, uniting}
use Rattle.storage.specs.Refusals.{Change, refusing}
use Rattle.std.specs.Prelude.{Ok}

-- a store that has grown to m words, zipped with the other's: its first m words are those that the operation makes
pub zip_put : (op : SetOp) (ws z os w : List ℕ) (n m e : ℕ) → Fit ws → n ≤ length ws → m ≤ end_by op n (length os) → z ≡ zeroed n m ws → e ≡ min m (length os)
    → Put (λ k. word_by op (get_or z k 0) (get_or os k 0)) 0 e z w → Put (λ k. get_or (words_by op (take n ws) os) k 0) 0 m ws w
zip_put op ws z os w n m e fit hn h ez ee p = record {
  long = p.long ∙ ap length ez ∙ length-zeroed n m ws;
  fresh = λ k a l.
      by_lt k e
      (λ c. p.fresh k a c)
      (λ c. p.others k (inr c) ∙ sym (end_first op n (length os) k (get_or z k 0) (get_or os k 0) (fit_z k) (past os k (omega arith)) (omega arith) (omega arith)))
      ∙ ap (λ (x : ℕ). word_by op x (get_or os k 0)) (old k l) ∙ sym (by_at op (take n ws) os k);
  others = λ k c. out k c;
}
  where
    at : (k : ℕ) → get_or z k 0 ≡ get_or (zeroed n m ws) k 0
    at k = ap (λ (y : List ℕ). get_or y k 0) ez

    fit_z : Fit z
    fit_z = subst Fit (sym ez) (zeroed_fit n m ws fit)

    old : (k : ℕ) → k < m → get_or z k 0 ≡ get_or (take n ws) k 0
    old k l =
        at k
        ∙ by_lt k n
        (λ c. zeroed_out n m ws k (inl c) ∙ sym (get_or-take n ws k 0 c))
        (λ c. zeroed_in n m ws k c l ∙ sym (past (take n ws) k (omega (arith, length-take-le n ws hn))))

    out : (k : ℕ) → (k < 0) ⊎ (m ≤ k) → get_or w k 0 ≡ get_or ws k 0
    out k (inl c) = absurd (omega arith)
    out k (inr c) = p.others k (inr (omega arith)) ∙ at k ∙ zeroed_out n m ws k (inr c)

nonzero_same : (xs ys : List ℕ) → ((k : ℕ) → get_or xs k 0 ≡ get_or ys k 0) → nonzero_len xs ≡ nonzero_len ys
nonzero_same xs ys f = le_antisymm (le xs ys f) (le ys xs (λ k. sym (f k)))
  where
    le : (xs ys : List ℕ) → ((k : ℕ) → get_or xs k 0 ≡ get_or ys k 0) → nonzero_len xs ≤ nonzero_len ys
    le xs ys f =
        by_lt (nonzero_len ys) (nonzero_len xs)
        (λ l. absurd (nonzero_last xs (nonzero_len xs - 1) (omega arith) (f (nonzero_len xs - 1) ∙ nonzero_past ys (nonzero_len xs - 1) (omega arith))))
        (λ l. l)

-- past its end the operation makes only 0
pub end_holds : (op : SetOp) (ws os : List ℕ) (n end : ℕ) → n ≤ length ws → end ≡ end_by op n (length os) → nonzero_len (words_by op (take n ws) os) ≤ end
end_holds op ws os n end h e =
    omega (arith, by_nonzero op (take n ws) os n (length os) (nonzero_len (words_by op (take n ws) os)) (λ k l. past (take n ws) k (omega (arith, length-take-le n ws h))) (past os) refl)

-- how many words of the other are read: up to the last that is not 0, or all where the n words do not grow
abbrev pub Needed : SetOp → ℕ → List ℕ → ℕ → Type 0
Needed op n ys last = (last ≡ nonzero_len ys) ⊎ ((last ≡ length ys) × (end_by op n last ≤ n))

-- ---- the calls, past the guard

module _ (ws os : List ℕ) (b o : Bitmap) (p : PassedTwo ws b os o) where
  abbrev n : ℕ
  n = b.count

  comes_to : {a : Change} {ws' : List ℕ} (op : Bits → Op) (s : Bits) → op (held os o) (length ws) (held ws b) ≡ within (length ws) s
      → Leaves (within (length ws) s) ws b a ws' → Changes (beside os o op) ws b a ws'
  comes_to {a} {ws'} op s e =
      subst (λ (x : Outcome). Leaves x ws b a ws')
      (sym (outcome_ok (beside os o op) ws b p.own ∙ beside_ok os o op (length ws) (held ws b) p.other ∙ e))

  -- `and`, `andnot`, `xor`
  module _ (fo : Fit os) (op : SetOp) (last end : ℕ) (need : Needed op n (take o.count os) last) (ee : end ≡ end_by op n last) where
    low : last ≤ o.count
    low = go need
      where
        go : Needed op n (take o.count os) last → last ≤ o.count
        go (inl e) = omega (arith, nonzero_le (take o.count os), length-take-le o.count os p.other.inside)
        go (inr e) = omega (arith, e.0, length-take-le o.count os p.other.inside)

    -- the other's words from there on are 0
    rest : nonzero_len (take o.count os) ≤ last
    rest = go need
      where
        go : Needed op n (take o.count os) last → nonzero_len (take o.count os) ≤ last
        go (inl e) = omega arith
        go (inr e) = omega (arith, e.0, nonzero_le (take o.count os), length-take-le o.count os p.other.inside)

    pub front_inside : last ≤ length os
    front_inside = omega (arith, low, p.other.inside)

    abbrev words : List ℕ
    words = made_words op ws b os o

    front : (k : ℕ) → get_or (take last os) k 0 ≡ get_or (take o.count os) k 0
    front k =
        by_lt k last
        (λ l. get_or-take last os k 0 l ∙ sym (get_or-take o.count os k 0 (omega (arith, low))))
        (λ l. past (take last os) k (omega (arith, length-take-le last os front_inside)) ∙ sym (nonzero_past (take o.count os) k (omega (arith, rest))))

    made_put : {u : ℕ} {ws' : List ℕ} → Put (λ k. get_or (words_by op (take n ws) (take last os)) k 0) 0 u ws ws' → Put (λ k. get_or words k 0) 0 u ws ws'
    made_put q = record {
      long = q.long;
      fresh = λ k a l.
          q.fresh k a l ∙ by_at op (take n ws) (take last os) k ∙ ap (word_by op (get_or (take n ws) k 0)) (front k) ∙ sym (by_at op (take n ws) (take o.count os) k);
      others = q.others;
    }

    out_of_use : (k : ℕ) → n ≤ k → get_or (take n ws) k 0 ≡ 0
    out_of_use k h = past (take n ws) k (omega (arith, length-take-le n ws p.own.inside))

    holds : nonzero_len words ≤ end
    holds = omega (arith, by_nonzero op (take n ws) (take o.count os) n last (nonzero_len words) out_of_use (λ k h. nonzero_past (take o.count os) k (omega (arith, rest))) refl)

    fewest_changes : {a : Change} {ws' : List ℕ} → Leaves (within (length ws) (view words (nonzero_len words))) ws b a ws' → Changes (beside os o (combining op)) ws b a ws'
    unfolding combining
    fewest_changes = comes_to (combining op) (view words (nonzero_len words)) (ap (within (length ws)) (fewest_words op ws b os o p))

    -- the words up to the end, counted after they were written
    count : {u : ℕ} (r : ℕ) (ws' : List ℕ) → Put (λ k. get_or words k 0) 0 u ws ws' → end ≤ u → end ≤ length ws → r ≡ nonzero_len (take end ws') → r ≡ nonzero_len words
    count r ws' q h l e =
        e
        ∙ nonzero_same (take end ws') words
        (λ k. by_lt k end
        (λ c. get_or-take end ws' k 0 c ∙ q.fresh k (omega arith) (omega arith))
        (λ c. past (take end ws') k (omega (arith, q.long, length-take-le end ws' (omega (arith, q.long)))) ∙ sym (nonzero_past words k (omega (arith, holds)))))

    -- a store grows only to the other's last word that is not 0, which the result has
    grown : n < end → nonzero_len words ≡ end
    grown l = go need
      where
        lost : last ≡ nonzero_len (take o.count os) → (k : ℕ) → suc k ≡ end → nonzero_len words ≤ k → ⊥
        lost el k e c =
            nonzero_last (take o.count os) k (omega (arith, end_top op n last (omega arith)))
            (sym (end_second op n last k (get_or (take n ws) k 0) (get_or (take o.count os) k 0) (fit_part os o.count fo p.other.inside k) (out_of_use k (omega arith))
            (omega arith) (omega arith))
            ∙ sym (by_at op (take n ws) (take o.count os) k) ∙ nonzero_past words k c)

        go : Needed op n (take o.count os) last → nonzero_len words ≡ end
        go (inl el) = by_lt (nonzero_len words) end (λ c. absurd (lost el (end - 1) (omega arith) (omega arith))) (λ c. omega (arith, holds))
        go (inr e) = absurd (omega (arith, e.1))

    pub fewest_done : (r : ℕ) (ws' : List ℕ) → end ≤ length ws
        → Put (λ k. get_or (words_by op (take n ws) (take last os)) k 0) 0 (max n end) ws ws' → r ≡ nonzero_len (take end ws')
        → Changes (beside os o (combining op)) ws b (Ok (with_count b r)) ws'
    fewest_done r ws' h q e =
        subst (λ (x : ℕ). Changes (beside os o (combining op)) ws b (Ok (with_count b x)) ws')
        (sym (count r ws' (made_put q) (omega arith) h e))
        (fewest_changes
        (put_leaves words ws b (nonzero_len words) (max n end) ws' (by_fit op (take n ws) (take o.count os)) (omega arith) (omega (arith, holds)) used (made_put q)))
      where
        used : max n end ≡ max n (nonzero_len words)
        used = by_lt n end (λ l. ap (max n) (sym (grown l))) (λ l. omega (arith, holds))

    pub fewest_refused : length ws < end → Changes (beside os o (combining op)) ws b (refusing b NoSpace) ws
    fewest_refused h = fewest_changes (put_lacks words ws b (nonzero_len words) (omega (arith, grown (omega (arith, p.own.inside)))))

  -- `or`
  module _ (end : ℕ) (ee : end ≡ max n o.count) where
    union-changes : {a : Change} {ws' : List ℕ} → Leaves (within (length ws) (view (made_words Or ws b os o) end)) ws b a ws' → Changes (beside os o uniting) ws b a ws'
    unfolding uniting
    union-changes = comes_to uniting (view (made_words Or ws b os o) end) (ap (within (length ws)) (all_words_lem Or ws b os o p end ee))

    pub union-refused : length ws < end → Changes (beside os o uniting) ws b (refusing b NoSpace) ws
    union-refused h = union-changes (put_lacks (made_words Or ws b os o) ws b end h)

    pub union_done : (ws' : List ℕ) → end ≤ length ws → Put (λ k. get_or (made_words Or ws b os o) k 0) 0 (max n end) ws ws'
        → Changes (beside os o uniting) ws b (Ok (with_count b end)) ws'
    union_done ws' h q =
        union-changes (put_leaves (made_words Or ws b os o) ws b end (max n end) ws' (by_fit Or (take n ws) (take o.count os)) (all_hold Or ws b os o p end ee) h (omega arith) q)
