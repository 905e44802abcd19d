-- The walk over the frames of a sheet.
use Prim.Native.Nat.{ℕ, suc, ◌+◌, ◌-◌, ◌≤◌, ◌<◌}
use mathlib.Core.Path.{◌≡◌, sym, ap, ◌∙◌}
use mathlib.Core.Bool.{true, false}
use mathlib.Core.List.{List}
use mathlib.Core.Option.{none, some}
use native.Mathlib.Omega.{arith}
use lib.ListN.{length}
use lib.Dec.{ltb}
use borrow.Author.Tests.{le-leb, lt-leb, lt-ltb, le-ltb}
use Rattle.word.specs.Sets.{choose}
use Rattle.word.proofs.Cases.{by_lt, zero_one}
use Rattle.storage.specs.declared.Refusal.TheVariants.{NotSheet, CutRecord, BytesRemain}
use Rattle.editions.specs.Frames.{headed, count_in, end_at, frames_fault, sheet_fault}
use Rattle.editions.proofs.Turns.{take-true, take-false}
use Rattle.frames.specs.Frames.{end_in, fault_by}
use Rattle.std.specs.Prelude.{Option, Some, None, Result, Ok, Err, ⊤}
use Rattle.storage.specs.declared.Refusal.{Refusal}

module _ (s : List ℕ) (at : ℕ) where
  pub torn : length s < end_at s at → None ≡ end_in s at
  unfolding end_in
  torn h = sym (take-false (Some (end_at s at)) None (lt-leb (end_at s at) (length s) h))

  pub whole : end_at s at ≤ length s → Some (end_at s at) ≡ end_in s at
  unfolding end_in
  whole h = sym (take-true (Some (end_at s at)) None (le-leb (end_at s at) (length s) h))

  -- what an end tells, and none
  pub told-whole : (r : Option ℕ) (e : ℕ) → r ≡ end_in s at → r ≡ Some e → (e ≡ end_at s at) × (e ≤ length s)
  told-whole r e p q =
      by_lt (length s) (end_at s at)
      (λ h. let t : Some e ≡ None = sym q ∙ p ∙ sym (torn h) in zero_one cc)
      (λ h. let t : Some e ≡ Some (end_at s at) = sym q ∙ p ∙ sym (whole h) in let u : e ≡ end_at s at = cc in (u, omega arith))

  pub told-cut : (r : Option ℕ) → r ≡ end_in s at → r ≡ None → length s < end_at s at
  told-cut r p q =
      by_lt (length s) (end_at s at) (λ h. h)
      (λ h. let t : Some (end_at s at) ≡ None = whole h ∙ sym p ∙ q in zero_one cc)

  onward : (e m : ℕ) → e ≡ end_at s at → e ≤ length s → frames_fault s (suc m) at ≡ frames_fault s m e
  unfolding frames_fault
  onward e m q l = take-true (frames_fault s m (end_at s at)) (some CutRecord) (le-leb (end_at s at) (length s) (omega arith)) ∙ ap (frames_fault s m) (sym q)

  cut : (m : ℕ) → length s < end_at s at → frames_fault s (suc m) at ≡ some CutRecord
  unfolding frames_fault
  cut m h = take-false (frames_fault s m (end_at s at)) (some CutRecord) (lt-leb (end_at s at) (length s) h)

-- after i of n records: what is left decides
pub record Walking (s : List ℕ) (n at i : ℕ) : Type 0 where
  pub bound : i ≤ n
  pub inside : at ≤ length s
  pub decides : frames_fault s n 4 ≡ frames_fault s (n - i) at

module _ (s : List ℕ) (n : ℕ) where
  pub begins : 4 ≤ length s → Walking s n 4 0
  begins l = let e : n ≡ n - 0 = omega arith in record { bound = omega arith; inside = l; decides = ap (λ (m : ℕ). frames_fault s m 4) e }

  module _ (at i : ℕ) (w : Walking s n at i) where
    next : i < n → frames_fault s n 4 ≡ frames_fault s (suc (n - (i + 1))) at
    next h = let e : n - i ≡ suc (n - (i + 1)) = omega arith in w.decides ∙ ap (λ (m : ℕ). frames_fault s m at) e

    pub goes_on : (r : Option ℕ) (e : ℕ) → i < n → r ≡ end_in s at → r ≡ Some e → Walking s n e (i + 1)
    goes_on r e h p z =
        let (q, l) = told-whole s at r e p z in
        record { bound = omega arith; inside = l; decides = next h ∙ onward s at e (n - (i + 1)) q l }

    pub gets_10 : (r : Option ℕ) → i < n → r ≡ end_in s at → r ≡ None → Err CutRecord ≡ fault_by (frames_fault s n 4)
    gets_10 r h p z = ap fault_by (sym (next h ∙ cut s at (n - (i + 1)) (told-cut s at r p z)))

    ended : n ≤ i → frames_fault s n 4 ≡ choose (ltb at (length s)) (some BytesRemain) none
    unfolding frames_fault
    ended h = let e : n - i ≡ 0 = omega arith in w.decides ∙ ap (λ (m : ℕ). frames_fault s m at) e

    pub gets_11 : n ≤ i → at < length s → Err BytesRemain ≡ fault_by (frames_fault s n 4)
    gets_11 h l = ap fault_by (sym (ended h ∙ take-true (some BytesRemain) none (lt-ltb at (length s) l)))

    pub gets_none : n ≤ i → length s ≤ at → Ok tt ≡ fault_by (frames_fault s n 4)
    gets_none h l = ap fault_by (sym (ended h ∙ take-false (some BytesRemain) none (le-ltb at (length s) l)))

-- the header
module _ (s : List ℕ) where
  pub gets_9 : headed s ≡ false → Err NotSheet ≡ fault_by (sheet_fault s)
  unfolding sheet_fault
  gets_9 h = ap fault_by (sym (take-false (frames_fault s (count_in s) 4) (some NotSheet) h))

  pub header_good : (n : ℕ) (r : Result ⊤ Refusal) → headed s ≡ true → n ≡ count_in s → r ≡ fault_by (frames_fault s n 4) → r ≡ fault_by (sheet_fault s)
  unfolding sheet_fault
  header_good n r h c e =
      e ∙ ap (λ (m : ℕ). fault_by (frames_fault s m 4)) c ∙ ap fault_by (sym (take-true (frames_fault s (count_in s) 4) (some NotSheet) h))
