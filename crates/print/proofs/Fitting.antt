-- A text that is put at a buffer's front where it fits, after 1 and 2: whatever the text is.
use mathlib.Core.Path.{◌≡◌, refl, sym, ap, ap₂, ◌∙◌}
use mathlib.Core.Bool.{Bool}
use mathlib.Core.List.{List, ◌++◌}
use mathlib.Core.Logic.{inl, inr}
use Prim.Native.Nat.{ℕ, ◌≤◌, ◌<◌}
use lib.ListN.{length, take, drop}
use lib.Seq.{take_at, drop_at}
use borrow.Author.Tests.{le-leb, lt-leb}
use Rattle.word.specs.Sets.{choose}
use Rattle.word.proofs.Cases.{by_lt}
use Rattle.storage.specs.Refusals.{answer_number, amount_value}
use Rattle.storage.specs.Stores.{Bits, checked, held, reading}
use Rattle.storage.specs.Guards.{Passed}
use Rattle.storage.specs.Promises.{Guarded}
use Rattle.storage.specs.declared.Bitmap.{Bitmap}
use Rattle.storage.specs.declared.Refusal.{Refusal}
use Rattle.storage.specs.declared.Refusal.TheVariants.{NoSpace}
use Rattle.storage.proofs.Checks.{checked_ok, by_guard, reading_ok}
use Rattle.storage.proofs.Promises.{guarded, guarded_map}
use Rattle.print.specs.Texts.{fitted, replaced}
use Rattle.print.specs.Kernels.{put_at}
use Rattle.print.specs.Promises.{NotPrinted, TextPut, PutOrShort}
use Rattle.storage.specs.Refusals.{Amount}
use Rattle.std.specs.Prelude.{Ok, Err}

module _ (t out : List ℕ) where
  pub lacks : length out < length t → (fitted t out ≡ Err NoSpace) × (replaced t out ≡ out)
  lacks h =
      let e = lt-leb (length t) (length out) h in
      (ap (λ (x : Bool). choose x (Ok (length t)) (Err NoSpace)) e, ap (λ (x : Bool). choose x (t ++ drop (length t) out) out) e)

  pub fitting : length t ≤ length out → (fitted t out ≡ Ok (length t)) × (replaced t out ≡ put_at 0 t out)
  unfolding put_at
  fitting h =
      let e = le-leb (length t) (length out) h in
      (ap (λ (x : Bool). choose x (Ok (length t)) (Err NoSpace)) e, ap (λ (x : Bool). choose x (t ++ drop (length t) out) out) e)

  -- what is told of it
  module _ (r : Amount) (out' : List ℕ) (a : r ≡ fitted t out) (l : out' ≡ replaced t out) where
    pub not-put : length out < length t → NotPrinted out (answer_number r) (amount_value r) out' 6
    not-put h = let e = lacks h in record { hands = (ap answer_number (a ∙ e.0), ap amount_value (a ∙ e.0)); bytes = l ∙ e.1 }

    pub text-put : length t ≤ length out → TextPut t out (answer_number r) (amount_value r) out'
    unfolding put_at
    text-put h =
        let e = fitting h in
        let v : amount_value r ≡ length t = ap amount_value (a ∙ e.0) in
        record {
          number = ap answer_number (a ∙ e.0);
          value = v;
          front = ap (take (amount_value r)) (l ∙ e.1) ∙ take_at t (drop (length t) out) (amount_value r) (sym v);
          past = ap (drop (amount_value r)) (l ∙ e.1) ∙ drop_at t (drop (length t) out) (amount_value r) (sym v) ∙ ap (λ (m : ℕ). drop m out) (sym v);
        }

    pub put-or_short : (form : List ℕ → Type 0) → form t → PutOrShort form out (answer_number r) (amount_value r) out'
    put-or_short form x = (t, x, by_lt (length out) (length t) (λ h. inr (h, not-put h)) (λ h. inl (h, text-put h)))

-- the answer and the buffer are refused by one guard
module _ (ws : List ℕ) (b : Bitmap) (out : List ℕ) (f : Bits → Amount) (g : Bits → List ℕ) (r : Amount) (out' : List ℕ)
    (a : r ≡ reading ws b Err f) (l : out' ≡ reading ws b (λ e. out) g) where
  abbrev kept : Refusal → Amount × List ℕ
  kept e = (Err e, out)

  pair_is : (r, out') ≡ checked ws b kept (r, out')
  unfolding reading
  pair_is =
      by_guard ws b
      (λ e s. ap₂ (λ (x : Amount) (y : List ℕ). (x, y)) (a ∙ s _ Err (f (held ws b))) (l ∙ s _ (λ e. out) (g (held ws b))) ∙ sym (s _ kept (r, out')))
      (λ q. sym (checked_ok ws b kept (r, out') q))

  pub guarded_print : {P : Type 0} → (Passed ws b → r ≡ f (held ws b) → out' ≡ g (held ws b) → P) → Guarded ws b (NotPrinted out (answer_number r) (amount_value r) out') P
  guarded_print {P} k =
      guarded_map (λ q u. k q (a ∙ reading_ok ws b Err f q) (l ∙ reading_ok ws b (λ e. out) g q))
      (guarded ws b kept (r, out') (λ x k. NotPrinted out (answer_number x.0) (amount_value x.0) x.1 k) (λ x. Unit {0})
      (λ e. record { hands = (refl, refl); bytes = refl }) (λ q. tt) (r, out') pair_is)
