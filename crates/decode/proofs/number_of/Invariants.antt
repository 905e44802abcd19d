-- The number of at most eight bytes, below 256 to the power of their count. Loop: x is the number of the bytes so far, below 256 to the power of their count.
use Rattle.decode.proofs.Numbers.{ReadUpTo}
use Rattle.decode.proofs.number_of.Given as goal

abbrev pub invariant-loop-byte : goal.invariant-loop-byte
invariant-loop-byte l = ReadUpTo l.bytes l.byte-index l.x
