-- The loop over the records: what is left to be read decides.
use Prim.Native.Nat.{ℕ, suc, ◌+◌, ◌-◌, ◌≤◌, ◌<◌}
use mathlib.Core.Path.{◌≡◌, refl, sym, ap, ◌∙◌, subst}
use mathlib.Core.Bool.{Bool, true, false}
use mathlib.Core.List.{List}
use native.Mathlib.Omega.{arith}
use native.Mathlib.Numerals.{add-one}
use lib.ListN.{length}
use lib.Dec.{leb, ltb}
use borrow.Author.Tests.{le-leb, lt-leb, lt-ltb, le-ltb}
use Rattle.word.specs.Sets.{choose}
use Rattle.word.proofs.Cases.{zero_one}
use Rattle.word.proofs.Lists.{Fit}
use Rattle.storage.specs.Stores.{Bits, refused, with_count, view, written, answer, store, Leaves, bitmap_of}
use Rattle.storage.specs.declared.Bitmap.{Bitmap}
use Rattle.storage.specs.declared.Refusal.{Refusal}
use Rattle.storage.specs.declared.Refusal.TheVariants.{CutRecord, BytesRemain}
use Rattle.storage.proofs.Checks.{passed_as}
use Rattle.storage.proofs.Views.{view-count, bounded_view}
use Rattle.storage.proofs.Stores.{view-written, length-written}
use Rattle.sheet.specs.Kinds.{size_in, rule_of}
use Rattle.editions.specs.Frames.{Item, end_at, item_at}
use Rattle.editions.specs.Reader.{Edition, Turn, stop, next, Answer, refused, asking, taken, act, then, records}
use Rattle.sheet.specs.Reads.{edition_of, went, read_answer}
use Rattle.sheet.specs.declared.Edit.{Edit}
use Rattle.storage.specs.declared.Refused.{Refused}
use Rattle.reader.specs.Kernels.{Padded, outcome_of, turned, Came}
use Rattle.editions.proofs.Turns.{stop_next, next_inj}
use Rattle.sheet.proofs.Effects.{KeptIn, step_kept}
use Rattle.reader.proofs.Padding.{padded_written, written_fit, written_padded}
use Rattle.storage.specs.Refusals.{Change, refusing}
use Rattle.std.specs.Prelude.{Ok, Err}

-- ---- what a record makes has space, and no member past its words

module _ (edition c k : ℕ) (b s : Bits) (h : KeptIn c b) where
  taken-kept : (t : Turn Edit) → taken (edition_of c edition) k b t ≡ next s → KeptIn c s
  taken-kept (stop e) p = absurd (stop_next p)
  taken-kept (next e) p = step_kept c edition k e b s h p

  act_kept : (r : Item) → act (edition_of c edition) k r b ≡ next s → KeptIn c s
  unfolding act
  act_kept r p = go r.duty (asking (edition_of c edition).size (edition_of c edition).rule r.kind r.payload) p
    where
      go : (d : Bool) (t : Turn Edit) → choose d (taken (edition_of c edition) k b t) (next b) ≡ next s → KeptIn c s
      go true t q = taken-kept t q
      go false t q = subst (KeptIn c) (next_inj q) h

-- a step of the table does not look at the record's number
any_number : (edition c k : ℕ) (r : Item) (b : Bits) → act (edition_of c edition) k r b ≡ act (edition_of c edition) 0 r b
unfolding act edition_of
any_number edition c k r b = go r.duty (asking (size_in edition) rule_of r.kind r.payload)
  where
    go : (d : Bool) (t : Turn Edit) → choose d (taken (edition_of c edition) k b t) (next b) ≡ choose d (taken (edition_of c edition) 0 b t) (next b)
    go true (stop e) = refl
    go true (next e) = refl
    go false t = refl

-- ---- what a turn's answer tells

told_stop : (t : Turn Bits) (ws ws' : List ℕ) (b : Bitmap) (e : Refused) → Leaves (outcome_of t) ws b (Err e) ws' → t ≡ stop e.0
unfolding answer
told_stop (stop x) ws ws' b e l = let p : Err e ≡ refusing b x = l.answers in let q : e ≡ (x, b) = cc in ap (λ (r : Refused). stop r.0) (sym q)
told_stop (next s) ws ws' b e l = let p : Err e ≡ Ok (with_count b s.count) = l.answers in zero_one cc

record Made (t : Turn Bits) (ws ws' : List ℕ) (b after : Bitmap) (s : Bits) : Type 0 where
  is : t ≡ next s
  count : after.count ≡ s.count
  leaves : ws' ≡ written ws b.count s

told-next : (t : Turn Bits) (ws ws' : List ℕ) (b after : Bitmap) → Leaves (outcome_of t) ws b (Ok after) ws' → (s : Bits) × Made t ws ws' b after s
unfolding answer store
told-next (stop x) ws ws' b after l = let p : Ok after ≡ refusing b x = l.answers in zero_one cc
told-next (next s) ws ws' b after l =
    let p : Ok after ≡ Ok (with_count b s.count) = l.answers in
    let q : after ≡ with_count b s.count = cc in
    (s, record { is = refl; count = ap (λ (x : Bitmap). x.count) q; leaves = l.leaves })

-- ---- the loop

module _ (edition : ℕ) (sheet : List ℕ) (n : ℕ) (ws₀ : List ℕ) (n₀ : ℕ) where
  abbrev E : Edition Edit Bits
  E = edition_of (length ws₀) edition

  abbrev whole : Answer Bits
  whole = records (edition_of (length ws₀) edition) sheet n 0 4 (view ws₀ n₀)

  -- i records are read, and the next starts at a position: the store holds what they made
  pub record ReadingTo (ws : List ℕ) (m i at : ℕ) : Type 0 where
    pub bound : i ≤ n
    pub inside : at ≤ length sheet
    pub long : length ws ≡ length ws₀
    pub fit : Fit ws
    pub padded : Padded ws (bitmap_of m)
    pub decides : whole ≡ records E sheet (n - i) i at (view ws m)

  pub begins : 4 ≤ length sheet → Fit ws₀ → Padded ws₀ (bitmap_of n₀) → ReadingTo ws₀ n₀ 0 4
  begins l f p = record { bound = omega arith; inside = l; long = refl; fit = f; padded = p; decides = ap (λ (x : ℕ). records E sheet x 0 4 (view ws₀ n₀)) (let e : n ≡ n - 0 = omega arith in e) }

  module _ (ws : List ℕ) (m i at : ℕ) (g : ReadingTo ws m i at) (more : i < n) where
    unrolled : whole
        ≡ choose (leb (end_at sheet at) (length sheet))
        (then E (records E sheet (n - (i + 1)) (suc i) (end_at sheet at)) (suc i) (act E (suc i) (item_at sheet at) (view ws m))) (refused CutRecord (suc i))
    unfolding records
    unrolled = g.decides ∙ ap (λ (x : ℕ). records E sheet x i at (view ws m)) (let e : n - i ≡ suc (n - (i + 1)) = omega arith in e)

    pub cut : length sheet < end_at sheet at → whole ≡ refused CutRecord (i + 1)
    cut l =
        unrolled
        ∙ ap (λ (t : Bool). choose t (then E (records E sheet (n - (i + 1)) (suc i) (end_at sheet at)) (suc i) (act E (suc i) (item_at sheet at) (view ws m))) (refused CutRecord (suc i)))
        (lt-leb (end_at sheet at) (length sheet) l)
        ∙ ap (refused CutRecord) (sym (add-one i))

    module _ (end : ℕ) (q : end ≡ end_at sheet at) (l : end ≤ length sheet) where
      turns : whole ≡ then E (records E sheet (n - (i + 1)) (suc i) end) (suc i) (act E (suc i) (item_at sheet at) (view ws m))
      turns =
          unrolled
          ∙ ap (λ (t : Bool). choose t (then E (records E sheet (n - (i + 1)) (suc i) (end_at sheet at)) (suc i) (act E (suc i) (item_at sheet at) (view ws m))) (refused CutRecord (suc i)))
          (le-leb (end_at sheet at) (length sheet) (omega arith))
          ∙ ap (λ (x : ℕ). then E (records E sheet (n - (i + 1)) (suc i) x) (suc i) (act E (suc i) (item_at sheet at) (view ws m))) (sym q)

      -- the turn is made in a store of the same length
      in_store : (b : Bitmap) (r : Change) (ws' : List ℕ) → Leaves (turned edition (item_at sheet at) (length ws) (view ws m)) ws b r ws'
          → Leaves (outcome_of (act E (suc i) (item_at sheet at) (view ws m))) ws b r ws'
      unfolding turned
      in_store b r ws' h =
          subst (λ (t : Turn Bits). Leaves (outcome_of t) ws b r ws') (sym (any_number edition (length ws₀) (suc i) (item_at sheet at) (view ws m)))
          (subst (λ (c : ℕ). Leaves (turned edition (item_at sheet at) c (view ws m)) ws b r ws') g.long h)

      pub stops : (r : Change) (ws' : List ℕ) (e : Refused) → r ≡ Err e
          → Leaves (turned edition (item_at sheet at) (length ws) (view ws m)) ws (bitmap_of m) r ws' → whole ≡ refused e.0 (i + 1)
      stops r ws' e p h =
          turns
          ∙ ap (then E (records E sheet (n - (i + 1)) (suc i) end) (suc i))
          (told_stop (act E (suc i) (item_at sheet at) (view ws m)) ws ws' (bitmap_of m) e
          (in_store (bitmap_of m) (Err e) ws' (subst (λ (x : Change). Leaves (turned edition (item_at sheet at) (length ws) (view ws m)) ws (bitmap_of m) x ws') p h)))
          ∙ ap (refused e.0) (sym (add-one i))

      pub goes_on : (r : Change) (ws' : List ℕ) (after : Bitmap) → r ≡ Ok after
          → Leaves (turned edition (item_at sheet at) (length ws) (view ws m)) ws (bitmap_of m) r ws' → ReadingTo ws' after.count (i + 1) end
      goes_on r ws' after p h = record {
        bound = omega arith;
        inside = l;
        long = long;
        fit = subst Fit (sym y.leaves) (written_fit ws m s room g.padded.passes.inside g.fit);
        padded =
            subst (λ (x : ℕ). Padded ws' (bitmap_of x)) (sym y.count)
            (subst (λ (x : List ℕ). Padded x (bitmap_of s.count)) (sym y.leaves)
            (written_padded ws m s room g.padded.passes.inside (passed_as ws ws (bitmap_of m) 0 refl (omega arith) g.padded.passes) g.padded.zeros));
        decides =
            turns ∙ ap (then E (records E sheet (n - (i + 1)) (suc i) end) (suc i)) y.is
            ∙ ap (λ (x : Bits). records E sheet (n - (i + 1)) (suc i) end x) (sym seen)
            ∙ ap (λ (x : ℕ). records E sheet (n - (i + 1)) x end (view ws' after.count)) (sym (add-one i));
      }
        where
          found : (s : Bits) × Made (act E (suc i) (item_at sheet at) (view ws m)) ws ws' (bitmap_of m) after s
          found =
              told-next (act E (suc i) (item_at sheet at) (view ws m)) ws ws' (bitmap_of m) after
              (in_store (bitmap_of m) (Ok after) ws' (subst (λ (x : Change). Leaves (turned edition (item_at sheet at) (length ws) (view ws m)) ws (bitmap_of m) x ws') p h))

          s : Bits
          s = found.0

          y : Made (act E (suc i) (item_at sheet at) (view ws m)) ws ws' (bitmap_of m) after s
          y = found.1

          kept : KeptIn (length ws₀) s
          kept =
              act_kept edition (length ws₀) (suc i) (view ws m) s
              (record { bounded = bounded_view ws m; space = omega (arith, view-count ws m, g.padded.passes.inside, g.long) }) (item_at sheet at) y.is

          room : s.count ≤ length ws
          room = omega (arith, kept.space, g.long)

          long : length ws' ≡ length ws₀
          long = ap length y.leaves ∙ length-written ws m s ∙ g.long

          seen : view ws' after.count ≡ s
          seen = ap (view ws') y.count ∙ ap (λ (x : List ℕ). view x s.count) y.leaves ∙ view-written ws m s room g.padded.passes.inside kept.bounded

  module _ (ws : List ℕ) (m i at : ℕ) (g : ReadingTo ws m i at) (over : n ≤ i) where
    end : i ≡ n
    end = omega (arith, g.bound)

    last : whole ≡ choose (ltb at (length sheet)) (refused BytesRemain n) (Answer.done n (view ws m))
    unfolding records
    last =
        g.decides ∙ ap (λ (x : ℕ). records E sheet x i at (view ws m)) (let e : n - i ≡ 0 = omega arith in e)
        ∙ ap (λ (x : ℕ). choose (ltb at (length sheet)) (refused BytesRemain x) (Answer.done x (view ws m))) end

    pub remain : at < length sheet → whole ≡ refused BytesRemain n
    remain h = last ∙ ap (λ (t : Bool). choose t (refused BytesRemain n) (Answer.done n (view ws m))) (lt-ltb at (length sheet) h)

    pub finished : length sheet ≤ at → whole ≡ Answer.done n (view ws m)
    finished h = last ∙ ap (λ (t : Bool). choose t (refused BytesRemain n) (Answer.done n (view ws m))) (le-ltb at (length sheet) h)

-- ---- what a reading comes to

pub came_refused : (a : Answer Bits) (res res' : List ℕ) (e : Refusal) (k : ℕ) → length res' ≡ length res → a ≡ refused e k → Came a res (Err (e, k)) res'
came_refused a res res' e k l q = record {
  long = l;
  answers = ap (λ (x : Answer Bits). read_answer (went x)) (sym q);
  leaves = λ k' s p. let r : refused e k ≡ Answer.done k' s = sym q ∙ p in zero_one cc;
}

pub came_done : (a : Answer Bits) (res ws : List ℕ) (k m : ℕ) → length ws ≡ length res → Fit ws → Padded ws (bitmap_of m) → a ≡ Answer.done k (view ws m)
    → Came a res (Ok (k, bitmap_of m)) ws
unfolding view
came_done a res ws k m l f p q = record {
  long = l;
  answers = ap (λ (x : Answer Bits). read_answer (went x)) (sym q);
  leaves = λ k' s d. let r : Answer.done k (view ws m) ≡ Answer.done k' s = sym q ∙ d in let e : view ws m ≡ s = cc in padded_written res ws m l f p ∙ ap (written res (length res)) e;
}
