-- An addition: the sheet's refusals, the request's, and the record.
use Prim.Native.Nat.{ℕ, ◌≤◌, ◌<◌}
use mathlib.Core.Path.{◌≡◌, refl, sym, ap, ◌∙◌, subst}
use mathlib.Core.Bool.{Bool, true, false}
use mathlib.Core.List.{List}
use mathlib.Core.Option.{Option, none, some}
use native.Mathlib.Omega.{arith}
use lib.ListN.{length, take, length-take}
use borrow.Author.Tests.{lt-ltb, le-ltb}
use Rattle.word.proofs.Cases.{zero_one}
use Rattle.storage.specs.declared.Refusal.{Refusal}
use Rattle.storage.specs.declared.Refusal.TheVariants.{CountOverStore, NotSheet, BadPayload, NewerKind}
use Rattle.editions.specs.Frames.{count_in, frames_fault, sheet_fault}
use Rattle.sheet.specs.declared.Fields.{Fields}
use Rattle.plain.specs.Writer.{most, Request, duty, remark, requested, Checked, bad, good, Entry, note, checked_of, bytes_of, Left, refuse, placed, placed_by, judged, added, Writes, Adds}
use Rattle.editions.specs.Meaning.{Header}
use Rattle.editions.proofs.Turns.{none_some, take-true, take-false, header?, headed_false}
use Rattle.frames.specs.Frames.{fault_by}
use Rattle.writer.specs.Kernels.{Given}
use Rattle.writer.proofs.Answers.{writes}
use Rattle.writer.proofs.Places.{LaidAt}
use Rattle.std.specs.Prelude.{Result, Ok, Err, ⊤, IsErr, IsErrAnd}
use Rattle.storage.specs.Refusals.{Amount}
use Rattle.storage.proofs.Checks.{raised}

-- what is asked comes to a refusal, or to a record
module _ (buf : List ℕ) (len : ℕ) (c : Checked) where
  pub by_bad : (e : Refusal) → c ≡ bad e → Writes (placed_by buf len c) (Err e) buf
  by_bad e p = writes _ (refuse e buf) (ap (placed_by buf len) p)

  pub by_raised : (e : Refusal) → c ≡ bad e → (r : Amount) → IsErr r × IsErrAnd r (λ x. x ≡ e) → Writes (placed_by buf len c) r buf
  by_raised e p r h = subst (λ (x : Amount). Writes (placed_by buf len c) x buf) (sym (raised h)) (by_bad e p)

  pub by_good : (r : Amount) (b : List ℕ) (e : Entry) → c ≡ good e → Writes (placed buf len e) r b → Writes (placed_by buf len c) r b
  by_good r b e p w = subst (λ (c : Checked). Writes (placed_by buf len c) r b) (sym p) w

module _ (kind : ℕ) (p : List ℕ) where
  pub remark_13 : 127 < kind → checked_of (remark kind p) ≡ bad NewerKind
  unfolding checked_of
  remark_13 h = take-true _ _ (lt-ltb 127 kind h)

  module _ (k : kind ≤ 127) where
    pub remark_12 : most < length p → checked_of (remark kind p) ≡ bad BadPayload
    unfolding checked_of
    remark_12 h = take-false _ _ (le-ltb 127 kind k) ∙ take-true _ _ (lt-ltb most (length p) h)

    pub remark_good : length p ≤ most → checked_of (remark kind p) ≡ good (note kind p)
    unfolding checked_of
    remark_good h = take-false _ _ (le-ltb 127 kind k) ∙ take-false _ _ (le-ltb most (length p) h)

  pub remark_laid : LaidAt (note kind p) kind p (length p)
  unfolding bytes_of
  remark_laid = record { shaped = refl; sized = refl }

module _ (buf : List ℕ) (len : ℕ) where
  pub adds_2 : (q : Request) → length buf < len → Writes (added buf len q) (Err CountOverStore) buf
  unfolding added
  adds_2 q h = writes _ (refuse CountOverStore buf) (take-true _ _ (lt-ltb (length buf) len h))

  module _ (l : len ≤ length buf) (g : Result ⊤ Refusal) (told : g ≡ fault_by (sheet_fault (take len buf))) where
    looked : (q : Request) → added buf len q ≡ judged buf len q (sheet_fault (take len buf))
    unfolding added
    looked q = take-false _ _ (le-ltb (length buf) len l)

    adds_fault : (q : Request) (e : Refusal) → g ≡ Err e → Writes (added buf len q) (Err e) buf
    adds_fault q e s = writes _ (refuse e buf) (looked q ∙ go (sheet_fault (take len buf)) (sym told ∙ s))
      where
        go : (o : Option Refusal) → fault_by o ≡ Err e → judged buf len q o ≡ refuse e buf
        go none z = zero_one cc
        go (some d) z = let v : d ≡ e = cc in ap (λ (e : Refusal). refuse e buf) v

    pub adds_raised : (q : Request) (e : Refusal) → g ≡ Err e → (r : Amount) → IsErr r × IsErrAnd r (λ x. x ≡ e) → Writes (added buf len q) r buf
    adds_raised q e s r h = subst (λ (x : Amount). Writes (added buf len q) x buf) (sym (raised h)) (adds_fault q e s)

    module _ (s : g ≡ Ok tt) where
      sound : sheet_fault (take len buf) ≡ none
      sound = go (sheet_fault (take len buf)) (sym told ∙ s)
        where
          go : (o : Option Refusal) → fault_by o ≡ Ok tt → o ≡ none
          go none z = refl
          go (some d) z = zero_one cc

      pub adds_given : Given buf len
      unfolding sheet_fault
      adds_given = record { headed = omega (arith, rw length-take at long); inside = l }
        where
          long : 4 ≤ length (take len buf)
          long = go (header? (take len buf))
            where
              go : Dec (Header (take len buf)) → 4 ≤ length (take len buf)
              go (yes h) = h.0
              go (no h) = absurd (none_some (sym sound ∙ take-false (frames_fault (take len buf) (count_in (take len buf)) 4) (some NotSheet) (headed_false (take len buf) h)))

      asked : (q : Request) → added buf len q ≡ placed_by buf len (checked_of q)
      asked q = looked q ∙ ap (judged buf len q) sound

      pub adds_duty : (d : Bool) (kind : ℕ) (f : Fields) (p : List ℕ) (r : Amount) (b : List ℕ) → d ≡ true → Writes (placed_by buf len (checked_of (duty kind f))) r b → Adds buf len d kind f p r b
      adds_duty d kind f p r b e w = subst (λ (x : Left). Writes x r b) (sym (ap (λ (d : Bool). added buf len (requested d kind f p)) e ∙ asked (duty kind f))) w

      pub adds_remark : (d : Bool) (kind : ℕ) (f : Fields) (p : List ℕ) (r : Amount) (b : List ℕ) → d ≡ false → Writes (placed_by buf len (checked_of (remark kind p))) r b → Adds buf len d kind f p r b
      adds_remark d kind f p r b e w = subst (λ (x : Left). Writes x r b) (sym (ap (λ (d : Bool). added buf len (requested d kind f p)) e ∙ asked (remark kind p))) w
