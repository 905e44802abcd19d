-- The promises of specs/Promises.
use Prim.Native.Nat.{ℕ}
use mathlib.Core.Path.{◌≡◌, refl, sym, ◌∙◌, subst}
use mathlib.Core.Bool.{true, false≢true}
use mathlib.Core.List.{List}
use mathlib.Core.Logic.{◌↔◌}
use mathlib.Core.Option.{Option, none, some}
use Rattle.storage.specs.Refusals.{answer_number}
use Rattle.storage.specs.declared.Refusal.{Refusal}
use Rattle.editions.specs.Frames.{headed, sheet_fault}
use Rattle.editions.specs.Meaning.{Header}
use Rattle.editions.specs.Promises.{SheetGets}
use Rattle.editions.proofs.Turns.{header?, headed_true, headed_false}
use Rattle.editions.proofs.Faults.{fault_number, sheet_gets, fault_is}
use Rattle.frames.specs.Frames.{end_in, fault_by}
use Rattle.frames.specs.Promises.{HeadIn, EndsAt, FramesMean}
use Rattle.frames.proofs.Walks.{torn, whole, told-cut}

module _ (sheet : List ℕ) where
  head_told : headed sheet ≡ true → Header sheet
  head_told e = go (header? sheet)
    where
      go : Dec (Header sheet) → Header sheet
      go (yes h) = h
      go (no h) = absurd (false≢true (sym (headed_false sheet h) ∙ e))

  head_in : HeadIn sheet
  head_in = record { head = (head_told, headed_true sheet); count = refl }

  ends_at : (at : ℕ) → EndsAt sheet at (end_in sheet at)
  ends_at at = record { whole = λ l. sym (whole sheet at l); cut = (told-cut sheet at (end_in sheet at) refl, λ l. sym (torn sheet at l)) }

  same_number : (o : Option Refusal) → answer_number (fault_by o) ≡ fault_number o
  same_number none = refl
  same_number (some e) = refl

  fault_due : (x : ℕ) → (answer_number (fault_by (sheet_fault sheet)) ≡ x) ↔ SheetGets sheet x
  fault_due x =
      let n = same_number (sheet_fault sheet) in
      ((λ e. subst (SheetGets sheet) (sym n ∙ e) (sheet_gets sheet)), λ g. n ∙ fault_is sheet x g)

pub frames_mean : FramesMean
frames_mean = record { heads = head_in; ends = ends_at; faults = fault_due }
