-- What a set operation makes of two bitmaps, by the words in use of both.
use mathlib.Core.Path.{◌≡◌, refl, sym, ap, ap₂, ◌∙◌, fun_ext, subst}
use mathlib.Core.Bool.{Bool, false}
use mathlib.Core.List.{List}
use mathlib.Core.Logic.{◌⊎◌, inl, inr}
use Prim.Native.Nat.{ℕ, ◌+◌, ◌*◌, ◌/◌, ◌%◌, ◌^◌, ◌≤◌, ◌<◌, max}
use native.Mathlib.Omega.{arith}
use lib.ListN.{length, get_or, take}
use lib.Seq.{length-take-le}
use lib.Dec.{eqb}
use borrow.Author.Tests.{eq-eqb, eqb-true}
use Rattle.word.specs.Sets.{count_below}
use Rattle.word.specs.Places.{bit, member}
use Rattle.word.proofs.Cases.{by_lt, eqb_same}
use Rattle.word.proofs.Places.{bit-zero}
use Rattle.word.proofs.Lists.{Fit, member-past}
use Rattle.word.proofs.Sweep.{Swept}
use Rattle.arch.specs.Scans.{nonzero_len, is_zero}
use Rattle.arch.proofs.Scans.{nonzero_past, nonzero_le}
use Rattle.word.proofs.Sets.{count_ext, count_none, count-empty}
use Rattle.arch.specs.Promises.{ZeroIsEmpty}
use Rattle.arch.proofs.Promises.{zero_is_empty}
use Rattle.pairs.specs.Pairs.{table_of, words_by}
use Rattle.pairs.specs.declared.SetOp.{SetOp}
use Rattle.pairs.proofs.Tables.{by_length, by_fit, by_member}
use Rattle.pairs.proofs.Promises.{table_means}
use Rattle.storage.specs.Stores.{Bits, Bounded, with_count, store_limit, view, held, reading_both, combined, within, trimmed_count, trimmed, zeroed, Leaves, size}
use Rattle.storage.specs.Kernels.{all_words, Put}
use Rattle.storage.specs.Guards.{Passed, PassedTwo}
use Rattle.storage.specs.Promises.{MadeOf}
use Rattle.storage.specs.declared.Bitmap.{Bitmap}
use Rattle.storage.specs.declared.Refusal.{Refusal}
use Rattle.storage.specs.declared.Refusal.TheVariants.{NoSpace}
use Rattle.std.specs.Prelude.{Ok}
use Rattle.storage.specs.Refusals.{refusing}
use Rattle.storage.proofs.Checks.{both_ok, within_ok, within_no}
use Rattle.storage.proofs.Views.{view-count, view_in, view-at, view_out, view-part, bounded_view}
use Rattle.storage.proofs.Stores.{leaves_refused, leaves_done, length-zeroed, zeroed_in, zeroed_out}
use Rattle.storage.proofs.Trims.{trimmed_words}
use Rattle.storage.proofs.Once.{same_bits, by_condition}

-- ---- the bitmap of all words of a list

module _ (ws : List ℕ) where
  pub all-count : (all_words ws).count ≡ length ws
  unfolding all_words
  all-count = view-count ws (length ws)

  pub all-member : (i : ℕ) → (all_words ws).members i ≡ member ws i
  unfolding all_words
  all-member i = by_lt i (64 * length ws) (λ l. view-at ws (length ws) i l) (λ l. view_out ws (length ws) i l ∙ sym (member-past ws i l))

  pub all-bit : (k j : ℕ) → k < length ws → j < 64 → (all_words ws).members (64 * k + j) ≡ bit (get_or ws k 0) j
  unfolding all_words
  all-bit k j = view_in ws (length ws) k j

  pub all_bounded : Bounded (all_words ws)
  unfolding all_words
  all_bounded = bounded_view ws (length ws)

  pub size-all : size (all_words ws) ≡ count_below (member ws) (64 * length ws)
  unfolding size
  size-all =
      ap (λ (n : ℕ). count_below (all_words ws).members (64 * n)) all-count
      ∙ count_ext (all_words ws).members (member ws) (64 * length ws) (λ i l. all-member i)

-- ---- no members at all

module _ (b : Bits) where
  pub size_none : ((i : ℕ) → b.members i ≡ false) → size b ≡ 0
  unfolding size
  size_none h = count_none b.members (64 * b.count) (λ i l. h i)

  pub none_of_size : Bounded b → size b ≡ 0 → (i : ℕ) → b.members i ≡ false
  unfolding size
  none_of_size h e i = by_lt i (64 * b.count) (count-empty b.members (64 * b.count) i e) (h.past i)

-- the words of a list are all 0 exactly where its bitmap has no members
pub zero_words : (ws : List ℕ) → Fit ws → is_zero ws ≡ eqb (size (all_words ws)) 0
unfolding is_zero
zero_words ws f =
    eqb_same (nonzero_len ws) 0 (size (all_words ws)) 0
    (λ e. size_none (all_words ws) (λ i. all-member ws i ∙ z.empty (eq-eqb (nonzero_len ws) 0 e) i))
    (λ e. eqb-true (nonzero_len ws) 0 (z.zero (λ i. sym (all-member ws i) ∙ none_of_size (all_words ws) (all_bounded ws) e i)))
  where
    z : ZeroIsEmpty ws
    z = zero_is_empty ws f

-- ---- two bitmaps, and the words that the operation makes of those in use

pub combined_words : (op : SetOp) (ws os : List ℕ) (n m : ℕ) → n ≤ length ws → m ≤ length os
    → combined op (view ws n) (view os m) ≡ all_words (words_by op (take n ws) (take m os))
unfolding combined
combined_words op ws os n m hn hm =
    same_bits
    (λ i. ap₂ (table_of op) (view-part ws n i hn) (view-part os m i hm) ∙ sym (by_member op (take n ws) (take m os) i) ∙ sym (all-member made i))
    (ap₂ max (view-count ws n ∙ sym (length-take-le n ws hn)) (view-count os m ∙ sym (length-take-le m os hm))
    ∙ sym (by_length op (take n ws) (take m os)) ∙ sym (all-count made))
  where
    made : List ℕ
    made = words_by op (take n ws) (take m os)

-- the words in use are no more than a store may have
pub part_short : (ws : List ℕ) (b : Bitmap) → Passed ws b → length (take b.count ws) ≤ store_limit
part_short ws b p = omega (arith, p.short, p.inside, length-take-le b.count ws p.inside)

module _ (op : SetOp) (ws : List ℕ) (b : Bitmap) (os : List ℕ) (o : Bitmap) where
  -- the words that the operation makes of those in use
  abbrev pub made_words : List ℕ
  made_words = words_by op (take b.count ws) (take o.count os)

  -- a call that reads two bitmaps asks of what the operation makes
  pub both_read : {A : Type 0} (refuse : Refusal → A) (f : Bits → A) → PassedTwo ws b os o
      → reading_both ws b os o refuse (λ s t. f (combined op s t)) ≡ f (all_words made_words)
  both_read refuse f p =
      both_ok ws b os o refuse (λ s t. f (combined op s t)) p
      ∙ ap f (combined_words op ws os b.count o.count p.own.inside p.other.inside)

-- the set of what comes in, and no other such set
module _ (op : SetOp) (b o : Bits) where
  pub made_of : MadeOf op b o (combined op b o).members
  unfolding combined
  made_of i = table_means op (b.members i) (o.members i)

  pub made_is : (s : ℕ → Bool) → MadeOf op b o s → (i : ℕ) → s i ≡ (combined op b o).members i
  made_is s h = by_condition s (combined op b o).members h made_of

-- ---- the fewest words that hold a result, and all of them, as the first words of a list

pub trimmed-all : (ws : List ℕ) → Fit ws → trimmed (all_words ws) ≡ view ws (nonzero_len ws)
unfolding all_words view member
trimmed-all ws f =
    same_bits
    (λ i. by_lt i (64 * nonzero_len ws)
    (λ l. all-member ws i ∙ sym (view-at ws (nonzero_len ws) i l))
    (λ l. all-member ws i ∙ ap (λ (x : ℕ). bit x (i % 64)) (nonzero_past ws (i / 64) (omega arith)) ∙ bit-zero (i % 64) ∙ sym (view_out ws (nonzero_len ws) i l)))
    (ap (λ (s : ℕ → Bool). trimmed_count s (length ws)) (fun_ext (all-member ws)) ∙ trimmed_words ws f)

module _ (op : SetOp) (ws : List ℕ) (b : Bitmap) (os : List ℕ) (o : Bitmap) (p : PassedTwo ws b os o) where
  pub fewest_words : trimmed (combined op (held ws b) (held os o)) ≡ view (made_words op ws b os o) (nonzero_len (made_words op ws b os o))
  fewest_words =
      ap trimmed (combined_words op ws os b.count o.count p.own.inside p.other.inside)
      ∙ trimmed-all (made_words op ws b os o) (by_fit op (take b.count ws) (take o.count os))

  pub all_words_lem : (m : ℕ) → m ≡ max b.count o.count → combined op (held ws b) (held os o) ≡ view (made_words op ws b os o) m
  unfolding all_words
  all_words_lem m e =
      combined_words op ws os b.count o.count p.own.inside p.other.inside
      ∙ ap (view (made_words op ws b os o)) (by_length op (take b.count ws) (take o.count os)
      ∙ ap₂ max (length-take-le b.count ws p.own.inside) (length-take-le o.count os p.other.inside) ∙ sym e)

  pub all_hold : (m : ℕ) → m ≡ max b.count o.count → nonzero_len (made_words op ws b os o) ≤ m
  all_hold m e =
      omega (
        arith,
        nonzero_le (made_words op ws b os o),
        by_length op (take b.count ws) (take o.count os),
        length-take-le b.count ws p.own.inside,
        length-take-le o.count os p.other.inside,
      )

-- ---- words put into a store

-- what a loop leaves
pub swept_put : (new : ℕ → ℕ) (a e k : ℕ) (ws ws' : List ℕ) → Swept ws new a k ws' → e ≤ k → k ≤ max a e → Put new a e ws ws'
swept_put new a e k ws ws' s h l = record { long = s.long; fresh = λ j p q. s.fresh j p (omega arith); others = λ j c. out j c }
  where
    out : (j : ℕ) → (j < a) ⊎ (e ≤ j) → get_or ws' j 0 ≡ get_or ws j 0
    out j (inl p) = s.below j p
    out j (inr p) = by_lt j a (λ m. s.below j m) (λ m. s.above j (omega arith))

-- what falls out of use becomes 0, as the list has it there
pub zeroed-put : (made ws w ws' : List ℕ) (n m : ℕ) → nonzero_len made ≤ m → Put (λ k. get_or made k 0) 0 m ws w → ws' ≡ zeroed m n w
    → Put (λ k. get_or made k 0) 0 (max n m) ws ws'
zeroed-put made ws w ws' n m h p e = record {
  long = ap length e ∙ length-zeroed m n w ∙ p.long;
  fresh = λ k a l.
      at k
      ∙ by_lt k m
      (λ c. zeroed_out m n w k (inl c) ∙ p.fresh k a c)
      (λ c. zeroed_in m n w k c (omega arith) ∙ sym (nonzero_past made k (omega arith)));
  others = λ k c. out k c;
}
  where
    at : (k : ℕ) → get_or ws' k 0 ≡ get_or (zeroed m n w) k 0
    at k = ap (λ (y : List ℕ). get_or y k 0) e

    out : (k : ℕ) → (k < 0) ⊎ (max n m ≤ k) → get_or ws' k 0 ≡ get_or ws k 0
    out k (inl c) = absurd (omega arith)
    out k (inr c) = at k ∙ zeroed_out m n w k (inr (omega arith)) ∙ p.others k (inr (omega arith))

-- a call that comes to the first m words of a list, past which it has only 0: they are put, and 0 where words fall out of use
module _ (made ws : List ℕ) (b : Bitmap) (m : ℕ) where
  pub put_leaves : (u : ℕ) (ws' : List ℕ) → Fit made → nonzero_len made ≤ m → m ≤ length ws → u ≡ max b.count m → Put (λ k. get_or made k 0) 0 u ws ws'
      → Leaves (within (length ws) (view made m)) ws b (Ok (with_count b m)) ws'
  unfolding view
  put_leaves u ws' fit z h e p =
      leaves_done (within_ok (length ws) (view made m) h)
      (record {
        long = p.long;
        fits = λ k l. subst (λ (x : ℕ). x < 2 ^ 64) (sym (used k (omega arith))) (fit k);
        used = λ k j l q. ap (λ (x : ℕ). bit x j) (used k (omega arith)) ∙ sym (view_in made m k j l q);
        dropped = λ k l q. used k (omega arith) ∙ nonzero_past made k (omega arith);
        kept = λ k l q. p.others k (inr (omega arith));
      })
      refl
    where
      used : (k : ℕ) → k < u → get_or ws' k 0 ≡ get_or made k 0
      used k l = p.fresh k (omega arith) l

  pub put_lacks : length ws < m → Leaves (within (length ws) (view made m)) ws b (refusing b NoSpace) ws
  unfolding view
  put_lacks h = leaves_refused (within_no (length ws) (view made m) h)
