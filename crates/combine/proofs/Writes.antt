-- The words that an operation makes of two lists, put part by part.
use mathlib.Core.Path.{◌≡◌, sym, ap, ◌∙◌}
use mathlib.Core.List.{List}
use mathlib.Core.Logic.{◌⊎◌, inl, inr}
use Prim.Native.Nat.{ℕ, ◌+◌, ◌-◌, ◌≤◌, ◌<◌, min, max}
use native.Mathlib.Omega.{arith}
use lib.ListN.{length, get_or, drop}
use lib.Seq.{get_or-take, get_or-drop}
use borrow.Rule.Slice.PartMut.{mid_of, put_mid, same_len_mid, mid_len, take_put, drop_put}
use Rattle.std.proofs.lemmas.Slice.{between-put_mid}
use Rattle.word.proofs.Cases.{by_lt}
use Rattle.word.proofs.Lists.{Fit, past}
use Rattle.arch.specs.Scans.{nonzero_len}
use Rattle.pairs.specs.Pairs.{words_by, end_by}
use Rattle.pairs.specs.declared.SetOp.{SetOp}
use Rattle.pairs.specs.declared.SetOp.TheVariants.{Or}
use Rattle.pairs.proofs.Tables.{end-le, end_first, end_second, by_at, by_nonzero}
use Rattle.storage.specs.Kernels.{Put}

-- the fewest words lie below the end that the operation makes of both lengths
pub fewest_end : (op : SetOp) (xs ys : List ℕ) (m : ℕ) → m ≡ nonzero_len (words_by op xs ys) → m ≤ end_by op (length xs) (length ys)
fewest_end op xs ys m = by_nonzero op xs ys (length xs) (length ys) m (past xs) (past ys)

-- the words from a on, below e, copied from another list
module _ (xs ws part : List ℕ) (a e : ℕ) (h : a ≤ e) (inside : e ≤ length xs) (room : e ≤ length ws) (same : part ≡ mid_of a (e - a) xs) where
  abbrev copied : List ℕ
  copied = put_mid a (e - a) ws part

  long : length part ≡ e - a
  long = ap length same ∙ mid_len a e xs inside

  part_at : (zs : List ℕ) (k : ℕ) → a ≤ k → k < e → get_or (mid_of a (e - a) zs) (k - a) 0 ≡ get_or zs k 0
  part_at zs k p q = get_or-take (e - a) (drop a zs) (k - a) 0 (omega arith) ∙ get_or-drop a zs (k - a) 0 ∙ ap (λ (m : ℕ). get_or zs m 0) (omega arith)

  copied_put : Put (λ k. get_or xs k 0) a e ws copied
  copied_put = record {
    long = same_len_mid a (e - a) ws part (long ∙ sym (mid_len a e ws room));
    fresh = λ k p q. sym (part_at copied k p q) ∙ ap (λ (y : List ℕ). get_or y (k - a) 0) (between-put_mid a (e - a) ws part e (omega arith) long ∙ same) ∙ part_at xs k p q;
    others = λ k c. out k c;
  }
    where
      out : (k : ℕ) → (k < a) ⊎ (e ≤ k) → get_or copied k 0 ≡ get_or ws k 0
      out k (inl l) = sym (get_or-take a copied k 0 l) ∙ ap (λ (y : List ℕ). get_or y k 0) (take_put a (e - a) ws part (omega arith)) ∙ get_or-take a ws k 0 l
      out k (inr l) =
          ap (λ (m : ℕ). get_or copied m 0) {y = e + (k - e)} (omega arith) ∙ sym (get_or-drop e copied (k - e) 0)
          ∙ ap (λ (y : List ℕ). get_or y (k - e) 0) (drop_put a e ws part h room long)
          ∙ get_or-drop e ws (k - e) 0 ∙ ap (λ (m : ℕ). get_or ws m 0) (omega arith)

module _ (xs ys : List ℕ) (fx : Fit xs) (fy : Fit ys) where
  -- past the words of both the operation makes the longer list's own words, as `or` does
  rest_second : (op : SetOp) (k : ℕ) → length xs ≤ k → k < end_by op (length xs) (length ys) → get_or (words_by op xs ys) k 0 ≡ get_or ys k 0
  rest_second op k c l = by_at op xs ys k ∙ end_second op (length xs) (length ys) k (get_or xs k 0) (get_or ys k 0) (fy k) (past xs k c) c l

  rest_first : (op : SetOp) (k : ℕ) → length ys ≤ k → k < end_by op (length xs) (length ys) → get_or (words_by op xs ys) k 0 ≡ get_or xs k 0
  rest_first op k c l = by_at op xs ys k ∙ end_first op (length xs) (length ys) k (get_or xs k 0) (get_or ys k 0) (fx k) (past ys k c) c l

  -- the longer list's words from the shorter one's end on
  module _ (zs ws part : List ℕ) (m a : ℕ) (h : m ≤ max (length xs) (length ys)) (ea : a ≡ min (length xs) (length ys)) (from : a ≤ m) (room : m ≤ length ws) where
    pub tail_put : ((zs ≡ xs) × (length ys ≤ a)) ⊎ ((zs ≡ ys) × (length xs ≤ a)) → part ≡ mid_of a (m - a) zs
        → Put (λ k. get_or (words_by Or xs ys) k 0) (min (length xs) (length ys)) m ws (put_mid a (m - a) ws part)
    tail_put which same = record { long = p.long; fresh = λ k l q. p.fresh k (omega arith) q ∙ is which k (omega arith) q; others = λ k c. p.others k (out c) }
      where
        inside : ((zs ≡ xs) × (length ys ≤ a)) ⊎ ((zs ≡ ys) × (length xs ≤ a)) → m ≤ length zs
        inside (inl (e, l)) = omega (arith, ap (λ (y : List ℕ). length y) e)
        inside (inr (e, l)) = omega (arith, ap (λ (y : List ℕ). length y) e)

        p : Put (λ k. get_or zs k 0) a m ws (put_mid a (m - a) ws part)
        p = copied_put zs ws part a m from (inside which) room same

        is : ((zs ≡ xs) × (length ys ≤ a)) ⊎ ((zs ≡ ys) × (length xs ≤ a)) → (k : ℕ) → a ≤ k → k < m → get_or zs k 0 ≡ get_or (words_by Or xs ys) k 0
        is (inl (e, l)) k c q = ap (λ (y : List ℕ). get_or y k 0) e ∙ sym (rest_first Or k (omega arith) (omega arith))
        is (inr (e, l)) k c q = ap (λ (y : List ℕ). get_or y k 0) e ∙ sym (rest_second Or k (omega arith) (omega arith))

        out : {k : ℕ} → (k < min (length xs) (length ys)) ⊎ (m ≤ k) → (k < a) ⊎ (m ≤ k)
        out (inl l) = inl (omega arith)
        out (inr l) = inr l

  -- the words of both lists, and then the rest
  pub words_put : (op : SetOp) (m a d : ℕ) (ws w1 w2 : List ℕ) → m ≤ end_by op (length xs) (length ys) → a ≡ min (length xs) (length ys) → d ≡ min a m
      → Put (λ k. get_or (words_by op xs ys) k 0) 0 d ws w1 → Put (λ k. get_or (words_by Or xs ys) k 0) (min (length xs) (length ys)) m w1 w2
      → Put (λ k. get_or (words_by op xs ys) k 0) 0 m ws w2
  words_put op m a d ws w1 w2 h ea ed r t = record {
    long = t.long ∙ r.long;
    fresh = λ k p q.
        by_lt k (min (length xs) (length ys))
        (λ l. t.others k (inl l) ∙ r.fresh k p (omega arith))
        (λ l. t.fresh k l q ∙ same k l (omega arith));
    others = λ k c. out k c;
  }
    where
      same : (k : ℕ) → min (length xs) (length ys) ≤ k → k < end_by op (length xs) (length ys) → get_or (words_by Or xs ys) k 0 ≡ get_or (words_by op xs ys) k 0
      same k l q =
          by_lt k (length ys)
          (λ c. rest_second Or k (omega arith) (omega arith) ∙ sym (rest_second op k (omega arith) q))
          (λ c. rest_first Or k c (omega (arith, end-le op (length xs) (length ys))) ∙ sym (rest_first op k c q))

      out : (k : ℕ) → (k < 0) ⊎ (m ≤ k) → get_or w2 k 0 ≡ get_or ws k 0
      out k (inl c) = absurd (omega arith)
      out k (inr c) = t.others k (inr c) ∙ r.others k (inr (omega arith))
