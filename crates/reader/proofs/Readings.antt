-- A reading from its head on, and what it leaves in the result store.
use Prim.Native.Nat.{ℕ, ◌+◌, ◌-◌, ◌^◌, ◌≤◌, ◌<◌}
use mathlib.Core.Path.{◌≡◌, sym, ap, ap₂, ◌∙◌, subst}
use mathlib.Core.Bool.{Bool, true, false}
use mathlib.Core.List.{List}
use mathlib.Core.Logic.{inl}
use native.Mathlib.Omega.{arith}
use lib.ListN.{length, get_or, take, drop, length-append, length-drop, get_or-append}
use mathlib.Core.List.{◌++◌}
use lib.Seq.{length-take-le, get_or-take, get_or-drop}
use Rattle.std.proofs.lemmas.List.{get_or-append_right}
use borrow.Author.Tests.{le-leb, lt-leb}
use Rattle.word.specs.Sets.{choose}
use Rattle.word.specs.Places.{bit}
use Rattle.word.proofs.Lists.{Fit, past}
use Rattle.word.proofs.Sweep.{Swept}
use Rattle.storage.specs.Stores.{Bits, no_words, view, written, zeroed, bitmap_of}
use Rattle.storage.specs.Guards.{Passed}
use Rattle.storage.specs.declared.Refusal.TheVariants.{NoSpace, NotSheet}
use Rattle.storage.proofs.Views.{view-count, view_in, bounded_view}
use Rattle.storage.proofs.Stores.{stored_written, view-written, length-written, length-zeroed, zeroed_in, zeroed_out}
use Rattle.editions.specs.Frames.{headed, count_in}
use Rattle.editions.specs.Reader.{Edition, stop, next, Answer, refused, records, copied, read}
use Rattle.sheet.specs.Reads.{edition_of, fitting, went, read_answer}
use Rattle.sheet.specs.declared.Edit.{Edit}
use Rattle.sheet.proofs.Readings.{same-written}
use Rattle.reader.specs.Kernels.{Padded, Came}
use Rattle.reader.proofs.Padding.{written_padded}
use Rattle.sheet.specs.Reads.{Reading}

-- ---- the old words copied, and zeros past them

cleared : (res old ws : List ℕ) (n : ℕ) → Swept res (λ k. get_or old k 0) 0 n ws → Fit old → n ≤ length res
    → zeroed n (length res) ws ≡ written res (length res) (view old n)
cleared res old ws n w f h =
    stored_written res (length res) (view old n) (zeroed n (length res) ws)
    (record {
      long = length-zeroed n (length res) ws ∙ w.long;
      fits = λ k l. subst (λ (x : ℕ). x < 2 ^ 64) (sym (front k (omega (arith, view-count old n)))) (f k);
      used = λ k j l m. ap (λ (x : ℕ). bit x j) (front k (omega (arith, view-count old n))) ∙ sym (view_in old n k j (omega (arith, view-count old n)) m);
      dropped = λ k l m. zeroed_in n (length res) ws k (omega (arith, view-count old n)) m;
      kept = λ k l m. past (zeroed n (length res) ws) k (omega (arith, length-zeroed n (length res) ws, w.long)) ∙ sym (past res k m);
    })
  where
    front : (k : ℕ) → k < n → get_or (zeroed n (length res) ws) k 0 ≡ get_or old k 0
    front k l = zeroed_out n (length res) ws k (inl l) ∙ w.fresh k (omega arith) l

-- the first n words of the old store before the others of the result's
swept : (res old : List ℕ) (n : ℕ) → n ≤ length res → n ≤ length old → Swept res (λ k. get_or old k 0) 0 n (take n old ++ drop n res)
swept res old n h l =
    let t : length (take n old) ≡ n = length-take-le n old l in
    record {
      long = length-append (take n old) (drop n res) ∙ omega (arith, t, length-drop n res);
      fresh = λ k p q. get_or-append (take n old) (drop n res) 0 k (omega (arith, t)) ∙ get_or-take n old k 0 q;
      below = λ k p. absurd (omega arith);
      above = λ k p.
          get_or-append_right (take n old) (drop n res) n k 0 t p ∙ get_or-drop n res (k - n) 0
          ∙ ap (λ (i : ℕ). get_or res i 0) (let e : n + (k - n) ≡ k = omega arith in e);
    }

pub loaded : (res old ws ws' : List ℕ) (n : ℕ) → Fit old → n ≤ length res → n ≤ length old → ws ≡ take n old ++ drop n res → ws' ≡ zeroed n (length ws) ws
    → ws' ≡ written res (length res) (view old n)
loaded res old ws ws' n f h l e q = let w = subst (Swept res (λ k. get_or old k 0) 0 n) (sym e) (swept res old n h l) in q ∙ ap (λ (c : ℕ). zeroed n c ws) w.long ∙ cleared res old ws n w f h

-- ---- the head, the copy and the records

module _ (edition : ℕ) (sheet old : List ℕ) (n : ℕ) (res : List ℕ) where
  abbrev E : Edition Edit Bits
  E = edition_of (length res) edition

  abbrev whole : Answer Bits
  whole = read (edition_of (length res) edition) sheet (fitting (length res) (view old n))

  by_head : (t : Bool) → headed sheet ≡ t → whole ≡ choose t (copied E sheet (fitting (length res) (view old n))) (refused NotSheet 0)
  unfolding read
  by_head t e = ap (λ (t : Bool). choose t (copied E sheet (fitting (length res) (view old n))) (refused NotSheet 0)) e

  pub no_head : headed sheet ≡ false → whole ≡ refused NotSheet 0
  no_head e = by_head false e

  pub no_room : headed sheet ≡ true → length res < n → whole ≡ refused NoSpace 0
  unfolding view
  no_room e l = by_head true e ∙ ap (λ (t : Bool). copied E sheet (choose t (next (view old n)) (stop NoSpace))) (lt-leb n (length res) l)

  with-room : headed sheet ≡ true → n ≤ length res → whole ≡ records E sheet (count_in sheet) 0 4 (view old n)
  unfolding view
  with-room e l = by_head true e ∙ ap (λ (t : Bool). copied E sheet (choose t (next (view old n)) (stop NoSpace))) (le-leb n (length res) l)

  module _ (res' : List ℕ) (e : headed sheet ≡ true) (l : n ≤ length res) (q : res' ≡ written res (length res) (view old n)) where
    pub copy_long : length res' ≡ length res
    copy_long = ap length q ∙ length-written res (length res) (view old n)

    pub copy_padded : Passed res no_words → Padded res' (bitmap_of n)
    copy_padded p =
        subst (λ (x : List ℕ). Padded x (bitmap_of n)) (sym q)
        (subst (λ (x : ℕ). Padded (written res (length res) (view old n)) (bitmap_of x)) (view-count old n)
        (written_padded res (length res) (view old n) (omega (arith, view-count old n)) (omega arith) p (λ k h. past res k h)))

    seen : view res' n ≡ view old n
    seen =
        ap (λ (x : List ℕ). view x n) q ∙ ap (view (written res (length res) (view old n))) (sym (view-count old n))
        ∙ view-written res (length res) (view old n) (omega (arith, view-count old n)) (omega arith) (bounded_view old n)

    -- the records work on the copy
    pub came_copied : (r : ℕ) (x : Reading) (res'' : List ℕ) → r ≡ count_in sheet
        → Came (records (edition_of (length res') edition) sheet r 0 4 (view res' n)) res' x res'' → Came whole res x res''
    came_copied r x res'' k h = record {
      long = h.long ∙ copy_long;
      answers = h.answers ∙ ap (λ (a : Answer Bits). read_answer (went a)) same;
      leaves = λ j s d. h.leaves j s (same ∙ d) ∙ same-written s res' res copy_long;
    }
      where
        same : records (edition_of (length res') edition) sheet r 0 4 (view res' n) ≡ whole
        same =
            ap (λ (c : ℕ). records (edition_of c edition) sheet r 0 4 (view res' n)) copy_long
            ∙ ap₂ (λ (i : ℕ) (v : Bits). records E sheet i 0 4 v) k seen ∙ sym (with-room e l)
