-- Two bitmaps compared and counted, as sets: each call is one of these at one operation.
-- The shorter bitmap has no members past its words.
use Rattle.std.specs.Prelude.{ℕ, List, ◌==◌, Ok, Err}
use Rattle.pairs.specs.declared.SetOp.{SetOp}
use Rattle.storage.specs.Stores.{reading_both, size, combined}
use Rattle.storage.specs.declared.Bitmap.{Bitmap}
use Rattle.storage.specs.Refusals.{Amount, Truth}

-- the operation makes no member of the two
unfoldable pub empty_of : SetOp → List ℕ → Bitmap → List ℕ → Bitmap → Truth
unfolding reading_both
empty_of op ws b os o = reading_both ws b os o Err (λ s t. Ok (size (combined op s t) == 0))

-- how many it makes
unfoldable pub count_of : SetOp → List ℕ → Bitmap → List ℕ → Bitmap → Amount
unfolding reading_both
count_of op ws b os o = reading_both ws b os o Err (λ s t. Ok (size (combined op s t)))
