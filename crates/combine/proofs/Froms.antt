-- The set operations into another store, by the words that an operation makes.
use mathlib.Core.Path.{◌≡◌, refl, sym, ap, ◌∙◌, subst}
use mathlib.Core.List.{List}
use Prim.Native.Nat.{ℕ, ◌≤◌, min, max}
use native.Mathlib.Omega.{arith}
use lib.ListN.{length, get_or, take}
use lib.Seq.{length-take-le}
use Rattle.word.proofs.Lists.{Fit}
use Rattle.arch.specs.Scans.{nonzero_len}
use Rattle.pairs.specs.Pairs.{words_by, end_by}
use Rattle.pairs.specs.declared.SetOp.{SetOp}
use Rattle.pairs.specs.declared.SetOp.TheVariants.{Or}
use Rattle.pairs.proofs.Tables.{by_fit}
use Rattle.storage.specs.Stores.{Bits, Op, Outcome, with_count, view, held, within, zeroed, Leaves, Changes}
use Rattle.storage.specs.Kernels.{Put}
use Rattle.storage.specs.Guards.{PassedTwo, PassedThree}
use Rattle.storage.specs.declared.Bitmap.{Bitmap}
use Rattle.storage.proofs.Stores.{outcome_ok}
use Rattle.storage.proofs.Combined.{made_words, fewest_words, all_words_lem, all_hold, zeroed-put, put_leaves}
use Rattle.combine.specs.Combine.{combining_from, uniting_from, beside_both}
use Rattle.combine.proofs.Guards.{both_ok}
use Rattle.combine.proofs.Writes.{words_put}
use Rattle.storage.specs.Refusals.{Change}
use Rattle.std.specs.Prelude.{Ok}

-- the words that both have, and then the rest
pub written : (op : SetOp) (xs ys ws w mid ws' : List ℕ) (b : Bitmap) (m d : ℕ) → Fit xs → Fit ys → nonzero_len (words_by op xs ys) ≤ m
    → m ≤ end_by op (length xs) (length ys) → m ≤ length ws → d ≡ min (min (length xs) (length ys)) m
    → Put (λ k. get_or (words_by op xs ys) k 0) 0 d ws w → Put (λ k. get_or (words_by Or xs ys) k 0) (min (length xs) (length ys)) m w mid
    → ws' ≡ zeroed m b.count mid → Leaves (within (length ws) (view (words_by op xs ys) m)) ws b (Ok (with_count b m)) ws'
written op xs ys ws w mid ws' b m d fx fy z h k e q t c =
    put_leaves (words_by op xs ys) ws b m (max b.count m) ws' (by_fit op xs ys) z k refl
    (zeroed-put (words_by op xs ys) ws mid ws' b.count m z (words_put xs ys fx fy op m (min (length xs) (length ys)) d ws w mid h refl e q t) c)

-- past the guard, a call comes to the first words of those that the operation makes
module _ (ws left right : List ℕ) (b l r : Bitmap) (p : PassedThree ws b left l right r) where
  read : PassedTwo left l right r
  read = record { own = p.left; other = p.right }

  comes_to : {a : Change} {ws' : List ℕ} (op : Bits → Bits → Op) (s : Bits) → op (held left l) (held right r) (length ws) (held ws b) ≡ within (length ws) s
      → Leaves (within (length ws) s) ws b a ws' → Changes (beside_both left l right r op) ws b a ws'
  comes_to {a} {ws'} op s e =
      subst (λ (x : Outcome). Leaves x ws b a ws')
      (sym (outcome_ok (beside_both left l right r op) ws b p.own ∙ both_ok ws left right b l r op (length ws) (held ws b) p.left p.right ∙ e))

  pub comes_fewest : (op : SetOp) (m : ℕ) {a : Change} {ws' : List ℕ} → m ≡ nonzero_len (made_words op left l right r)
      → Leaves (within (length ws) (view (made_words op left l right r) m)) ws b a ws' → Changes (beside_both left l right r (combining_from op)) ws b a ws'
  unfolding combining_from
  comes_fewest op m e =
      comes_to (combining_from op) (view (made_words op left l right r) m)
      (ap (within (length ws)) (fewest_words op left l right r read ∙ ap (view (made_words op left l right r)) (sym e)))

  -- in as many words as the longer
  module _ (m : ℕ) (e : m ≡ max l.count r.count) where
    pub comes_union : {a : Change} {ws' : List ℕ} → Leaves (within (length ws) (view (made_words Or left l right r) m)) ws b a ws'
        → Changes (beside_both left l right r uniting_from) ws b a ws'
    unfolding uniting_from
    comes_union = comes_to uniting_from (view (made_words Or left l right r) m) (ap (within (length ws)) (all_words_lem Or left l right r read m e))

    pub union_holds : nonzero_len (made_words Or left l right r) ≤ m
    union_holds = all_hold Or left l right r read m e

    pub union_within : m ≤ max (length (take l.count left)) (length (take r.count right))
    union_within = omega (arith, length-take-le l.count left p.left.inside, length-take-le r.count right p.right.inside)
