-- Which four numbers each answer is, case by case, without the tellings' own words. Proved in proofs/Promises.
use Rattle.std.specs.Prelude.{ℕ, ◌≡◌, true, false, ◌↔◌, Ok, Err, Some, None}
use Rattle.storage.specs.Refusals.{number_of, passing, refusing}
use Rattle.storage.specs.declared.Bitmap.{Bitmap}
use Rattle.storage.specs.declared.Refusal.{Refusal}
use Rattle.told.specs.declared.Told.{Told}
use Rattle.told.specs.Tellings.{SameNumbers, four, found_told, amount_told, truth_told, change_told, split_told, word_told, guard_told}
use Rattle.storage.specs.Refusals.{refusing}

-- r is the number n, the tag t, the value v and the second value a
abbrev pub Four : Told → ℕ → ℕ → ℕ → ℕ → Type 0
Four r n t v a = (r.number ≡ n) × (r.tag ≡ t) × (r.value ≡ v) × (r.also ≡ a)

-- 0 and what was made, found or counted, or the refusal's number and what a refused call tells
pub record FourNumbers : Type 0 where
  pub alike : (r t : Told) → SameNumbers r t ↔ Four r t.number t.tag t.value t.also
  pub four : (n t v a : ℕ) → Four (four n t v a) n t v a
  pub found_at : (p : ℕ) → Four (found_told (Ok (Some p))) 0 1 p 0
  pub found_nothing : Four (found_told (Ok None)) 0 0 0 0
  pub found-refused : (e : Refusal) → Four (found_told (Err e)) (number_of e) 0 0 0
  pub amount_is : (n : ℕ) → Four (amount_told (Ok n)) 0 1 n 0
  pub amount-refused : (e : Refusal) → Four (amount_told (Err e)) (number_of e) 0 0 0
  pub truth-true : Four (truth_told (Ok true)) 0 1 1 0
  pub truth-false : Four (truth_told (Ok false)) 0 1 0 0
  pub truth-refused : (e : Refusal) → Four (truth_told (Err e)) (number_of e) 0 0 0
  pub change_done : (b : Bitmap) → Four (change_told (Ok b)) 0 2 b.count 0
  pub change-refused : (e : Refusal) (b : Bitmap) → Four (change_told (refusing b e)) (number_of e) 0 b.count 0
  pub split_done : (h u : Bitmap) → Four (split_told (Ok (h, u))) 0 2 h.count u.count
  pub split-refused : (e : Refusal) (b : Bitmap) → Four (split_told (Err (e, b))) (number_of e) 0 b.count 0
  pub word_at_lem : (k w : ℕ) → Four (word_told (Some (k, w))) 0 1 k w
  pub word-nothing : Four (word_told None) 0 0 0 0
  pub guard_pass : Four (guard_told passing) 0 0 0 0
  pub guard_stop : (e : Refusal) (b : Bitmap) → Four (guard_told (refusing b e)) (number_of e) 0 0 0
