-- The set operations of bitmap.rs, on sets and counts (01, "Words that enter and leave use").
use Rattle.pairs.specs.declared.SetOp.{SetOp}
use Rattle.pairs.specs.declared.SetOp.TheVariants.{Or}
use Rattle.storage.specs.Stores.{Bits, Op, within, trimmed, combined}

-- a set operation with a second bitmap: `and`, `andnot` and `xor` drop trailing zero words, `or` does not
unfoldable pub combining : SetOp → Bits → Op
combining op o c b = within c (trimmed (combined op b o))

unfoldable pub uniting : Bits → Op
uniting o c b = within c (combined Or b o)
