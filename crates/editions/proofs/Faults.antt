-- What is wrong with a sheet: each number of `sheet_fault` exactly where its condition holds.
use Prim.Native.Nat.{ℕ, zero, suc, ◌+◌, ◌≤◌, ◌<◌}
use mathlib.Core.Path.{◌≡◌, refl, sym, ap, ◌∙◌, subst}
use mathlib.Core.List.{List}
use mathlib.Core.Option.{Option, none, some}
use native.Mathlib.Omega.{arith}
use native.Mathlib.Decide.{dec_le}
use native.Mathlib.Nat.{add-zero, add-suc, suc-add, zero-add}
use lib.ListN.{length}
use borrow.Author.Tests.{lt-ltb, le-ltb, le-leb, lt-leb}
use Rattle.word.proofs.Cases.{by_lt}
use Rattle.storage.specs.Refusals.{number_of}
use Rattle.storage.proofs.Promises.{each_number_once}
use Rattle.storage.specs.declared.Refusal.{Refusal}
use Rattle.editions.specs.Frames.{count_in, end_at, frames_fault, sheet_fault}
use Rattle.editions.specs.Meaning.{Header, total, start, Whole}
use Rattle.editions.specs.Promises.{SheetGets, no_header, cut, remain, nothing}
use Rattle.editions.proofs.Turns.{take-true, take-false, header?, headed_true, headed_false}

-- the number of a fault, 0 for none
abbrev pub fault_number : Option Refusal → ℕ
fault_number none = 0
fault_number (some e) = number_of e

module _ (sheet : List ℕ) where
  abbrev pub WholeBelow : ℕ → Type 0
  WholeBelow n = (j : ℕ) → j < n → Whole sheet j

  abbrev pub GetsFault : Option Refusal → Type 0
  GetsFault o = SheetGets sheet (fault_number o)

  within : Header sheet → (n : ℕ) → WholeBelow n → start sheet n ≤ length sheet
  unfolding start
  within h zero w = h.0
  within h (suc n) w = w n (omega arith)

  walked : Header sheet → (n i : ℕ) → i + n ≡ count_in sheet → WholeBelow i → GetsFault (frames_fault sheet n (start sheet i))
  unfolding frames_fault start
  walked h zero i c w =
      let e : i ≡ count_in sheet = sym (add-zero i) ∙ c in
      let all : WholeBelow (count_in sheet) = subst WholeBelow e w in
      by_lt (start sheet i) (length sheet)
      (λ l. subst GetsFault (sym (take-true _ _ (lt-ltb (start sheet i) (length sheet) l))) (remain h all (subst (λ (n : ℕ). start sheet n < length sheet) e l) refl))
      (λ l. subst GetsFault (sym (take-false _ _ (le-ltb (start sheet i) (length sheet) l)))
      (nothing h all (subst (λ (n : ℕ). start sheet n ≡ length sheet) e (omega (arith, within h i w))) refl))
  walked h (suc n) i c w = go (λ w'. walked h n (suc i) (suc-add i n ∙ sym (add-suc i n) ∙ c) w') (dec_le (end_at sheet (start sheet i)) (length sheet))
    where
      more : Whole sheet i → WholeBelow (suc i)
      more u j l = on (dec_le (suc j) i)
        where
          on : Dec (j < i) → Whole sheet j
          on (yes k) = w j k
          on (no k) = let e : i ≡ j = omega arith in subst (Whole sheet) e u

      go : (WholeBelow (suc i) → GetsFault (frames_fault sheet n (start sheet (suc i)))) → Dec (Whole sheet i) → GetsFault (frames_fault sheet (suc n) (start sheet i))
      go ih (yes u) = subst GetsFault (sym (take-true _ _ (le-leb (end_at sheet (start sheet i)) (length sheet) u))) (ih (more u))
      go ih (no u) = subst GetsFault (sym (take-false _ _ (lt-leb (end_at sheet (start sheet i)) (length sheet) (omega arith)))) (cut h i (omega arith) w u refl)

  pub sheet_gets : GetsFault (sheet_fault sheet)
  unfolding sheet_fault start
  sheet_gets = go (header? sheet)
    where
      go : Dec (Header sheet) → GetsFault (sheet_fault sheet)
      go (yes h) = subst GetsFault (sym (take-true _ _ (headed_true sheet h))) (walked h (count_in sheet) 0 (zero-add (count_in sheet)) (λ j l. absurd (omega arith)))
      go (no h) = no_header h (ap fault_number (take-false _ _ (headed_false sheet h)))

  -- at most one of them applies
  once : (x y : ℕ) → SheetGets sheet x → SheetGets sheet y → x ≡ y
  once x y (no_header h e) (no_header h' e') = e ∙ sym e'
  once x y (no_header h e) (cut h' i l w n e') = absurd (h h')
  once x y (no_header h e) (remain h' w l e') = absurd (h h')
  once x y (no_header h e) (nothing h' w l e') = absurd (h h')
  once x y (cut h i l w n e) (no_header h' e') = absurd (h' h)
  once x y (cut h i l w n e) (cut h' i' l' w' n' e') = e ∙ sym e'
  once x y (cut h i l w n e) (remain h' w' l' e') = absurd (n (w' i l))
  once x y (cut h i l w n e) (nothing h' w' l' e') = absurd (n (w' i l))
  once x y (remain h w l e) (no_header h' e') = absurd (h' h)
  once x y (remain h w l e) (cut h' i' l' w' n' e') = absurd (n' (w i' l'))
  once x y (remain h w l e) (remain h' w' l' e') = e ∙ sym e'
  once x y (remain h w l e) (nothing h' w' l' e') = absurd (omega arith)
  once x y (nothing h w l e) (no_header h' e') = absurd (h' h)
  once x y (nothing h w l e) (cut h' i' l' w' n' e') = absurd (n' (w i' l'))
  once x y (nothing h w l e) (remain h' w' l' e') = absurd (omega arith)
  once x y (nothing h w l e) (nothing h' w' l' e') = e ∙ sym e'

  pub fault_is : (x : ℕ) → SheetGets sheet x → fault_number (sheet_fault sheet) ≡ x
  fault_is x g = once (fault_number (sheet_fault sheet)) x sheet_gets g

  pub fault_none : SheetGets sheet 0 → sheet_fault sheet ≡ none
  fault_none g = go (sheet_fault sheet) refl (fault_is 0 g)
    where
      go : (o : Option Refusal) → sheet_fault sheet ≡ o → fault_number o ≡ 0 → sheet_fault sheet ≡ none
      go none a z = a
      go (some e) a z = absurd (omega (arith, (each_number_once.range e).0))

  -- a sheet with no fault
  pub record Good : Type 0 where
    pub headed : Header sheet
    pub whole : WholeBelow (total sheet)
    pub ends : start sheet (total sheet) ≡ length sheet

  pub good_sheet : SheetGets sheet 0 → Good
  good_sheet (no_header h q) = absurd (omega arith)
  good_sheet (cut h i l w n q) = absurd (omega arith)
  good_sheet (remain h w l q) = absurd (omega arith)
  good_sheet (nothing h w l q) = record { headed = h; whole = w; ends = l }
