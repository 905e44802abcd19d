-- Two bitmaps walked, as sets: each call is `walk_of` at one set operation. The shorter bitmap has no members past its words.
use Rattle.std.specs.Prelude.{ℕ, List, Err}
use Rattle.pairs.specs.declared.SetOp.{SetOp}
use Rattle.storage.specs.Stores.{reading_both, combined, next_from}
use Rattle.storage.specs.declared.Bitmap.{Bitmap}
use Rattle.storage.specs.Refusals.{Found}

-- the least number from i on that is in the combined set
unfoldable pub walk_of : SetOp → List ℕ → Bitmap → List ℕ → Bitmap → ℕ → Found
unfolding reading_both
walk_of op ws b os o i = reading_both ws b os o Err (λ s t. next_from (combined op s t) i)
