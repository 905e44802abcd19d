-- Set operations of two bitmaps into another store, on sets and counts. What that store held before is discarded.
use Rattle.std.specs.Prelude.{ℕ, List}
use Rattle.pairs.specs.declared.SetOp.{SetOp}
use Rattle.pairs.specs.declared.SetOp.TheVariants.{Or}
use Rattle.storage.specs.Stores.{Bits, Op, beside, within, trimmed, combined}
use Rattle.storage.specs.declared.Bitmap.{Bitmap}

-- what an operation makes of two bitmaps, in the fewest words
unfoldable pub combining_from : SetOp → Bits → Bits → Op
combining_from op x y c b = within c (trimmed (combined op x y))

-- the members of either, in as many words as the longer
unfoldable pub uniting_from : Bits → Bits → Op
uniting_from x y c b = within c (combined Or x y)

-- two bitmaps to read, looked at after the store that is written, in argument order
unfoldable pub beside_both : List ℕ → Bitmap → List ℕ → Bitmap → (Bits → Bits → Op) → Op
beside_both xs l ys r op = beside xs l (λ x. beside ys r (op x))
