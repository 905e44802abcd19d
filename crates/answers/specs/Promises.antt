-- What the header says of a number and of what goes out, without the answers' own words. Each is proved in proofs/Promises.
use Rattle.std.specs.Prelude.{ℕ, ◌<◌, ◌≤◌, ◌≡◌, true, false, ◌↔◌, Ok, Err, Some, None}
use Rattle.storage.specs.Refusals.{last_number, number_of}
use Rattle.storage.specs.declared.Bitmap.{Bitmap}
use Rattle.storage.specs.declared.Refusal.{Refusal}
use Rattle.answers.specs.Answers.{ChangeOut, SplitOut, FoundOut, AmountOut, TruthOut, ReadingOut, AddedOut}
use Rattle.storage.specs.Refusals.{Found, Amount, Truth, Change, refusing}
use Rattle.sheet.specs.Reads.{Reading}
use Rattle.shapes.specs.Shapes.{Split}

-- what crosses, case by case: 0 and what was made or found, or the refusal's number and what a refused call hands out
pub record Crosses : Type 0 where
  pub change_done : (b : Bitmap) (r n : ℕ) → ChangeOut (Ok b) r n ↔ ((r ≡ 0) × (n ≡ b.count))
  pub change-refused : (e : Refusal) (b : Bitmap) (r n : ℕ) → ChangeOut (refusing b e) r n ↔ ((r ≡ number_of e) × (n ≡ b.count))
  pub split_done : (h u : Bitmap) (r n t : ℕ) → SplitOut (Ok (h, u)) r n t ↔ ((r ≡ 0) × (n ≡ h.count) × (t ≡ u.count))
  pub split-refused : (e : Refusal) (b : Bitmap) (r n t : ℕ) → SplitOut (Err (e, b)) r n t ↔ ((r ≡ number_of e) × (n ≡ b.count) × (t ≡ 0))
  pub found_at : (p r f v : ℕ) → FoundOut (Ok (Some p)) r f v ↔ ((r ≡ 0) × (f ≡ 1) × (v ≡ p))
  pub found_nothing : (r f v : ℕ) → FoundOut (Ok None) r f v ↔ ((r ≡ 0) × (f ≡ 0) × (v ≡ 0))
  pub found-refused : (e : Refusal) (r f v : ℕ) → FoundOut (Err e) r f v ↔ ((r ≡ number_of e) × (f ≡ 0) × (v ≡ 0))
  pub amount_is : (n r v : ℕ) → AmountOut (Ok n) r v ↔ ((r ≡ 0) × (v ≡ n))
  pub amount-refused : (e : Refusal) (r v : ℕ) → AmountOut (Err e) r v ↔ ((r ≡ number_of e) × (v ≡ 0))
  pub truth-true : (r v : ℕ) → TruthOut (Ok true) r v ↔ ((r ≡ 0) × (v ≡ 1))
  pub truth-false : (r v : ℕ) → TruthOut (Ok false) r v ↔ ((r ≡ 0) × (v ≡ 0))
  pub truth-refused : (e : Refusal) (r v : ℕ) → TruthOut (Err e) r v ↔ ((r ≡ number_of e) × (v ≡ 0))
  pub reading_done : (k : ℕ) (b : Bitmap) (r at n : ℕ) → ReadingOut (Ok (k, b)) r at n ↔ ((r ≡ 0) × (at ≡ k) × (n ≡ b.count))
  pub reading-refused : (e : Refusal) (k r at n : ℕ) → ReadingOut (Err (e, k)) r at n ↔ ((r ≡ number_of e) × (at ≡ k) × (n ≡ 0))
  pub added_done : (m old r n : ℕ) → AddedOut (Ok m) old r n ↔ ((r ≡ 0) × (n ≡ m))
  pub added-refused : (e : Refusal) (old r n : ℕ) → AddedOut (Err e) old r n ↔ ((r ≡ number_of e) × (n ≡ old))

-- no number is over the last one there is
pub record AtMostLast : Type 0 where
  pub change : (a : Change) (r n : ℕ) → ChangeOut a r n → r ≤ last_number
  pub split : (a : Split) (r n t : ℕ) → SplitOut a r n t → r ≤ last_number
  pub found : (a : Found) (r f v : ℕ) → FoundOut a r f v → r ≤ last_number
  pub amount : (a : Amount) (r v : ℕ) → AmountOut a r v → r ≤ last_number
  pub truth : (a : Truth) (r v : ℕ) → TruthOut a r v → r ≤ last_number
  pub reading : (a : Reading) (r k n : ℕ) → ReadingOut a r k n → r ≤ last_number
  pub added : (a : Amount) (old r n : ℕ) → AddedOut a old r n → r ≤ last_number

-- a refused call hands out 0, and the old length of a sheet
pub record RefusedHandsOut : Type 0 where
  pub split : (a : Split) (r n t : ℕ) → SplitOut a r n t → 0 < r → t ≡ 0
  pub found : (a : Found) (r f v : ℕ) → FoundOut a r f v → 0 < r → (f ≡ 0) × (v ≡ 0)
  pub amount : (a : Amount) (r v : ℕ) → AmountOut a r v → 0 < r → v ≡ 0
  pub truth : (a : Truth) (r v : ℕ) → TruthOut a r v → 0 < r → v ≡ 0
  pub reading : (a : Reading) (r k n : ℕ) → ReadingOut a r k n → 0 < r → n ≡ 0
  pub added : (a : Amount) (old r n : ℕ) → AddedOut a old r n → 0 < r → n ≡ old

-- a truth value and whether something is found are 1 or 0, and the place of nothing is 0
pub record Flags : Type 0 where
  pub truth : (a : Truth) (r v : ℕ) → TruthOut a r v → v ≤ 1
  pub found : (a : Found) (r f v : ℕ) → FoundOut a r f v → f ≤ 1
  pub nothing : (a : Found) (r f v : ℕ) → FoundOut a r f v → f ≡ 0 → v ≡ 0
