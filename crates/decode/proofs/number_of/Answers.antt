-- The number of at most eight bytes, below 256 to the power of their count.
use mathlib.Core.Path.{refl}
use native.Mathlib.Omega.{arith}
use Rattle.decode.proofs.Numbers.{read_none, read_more}
use Rattle.decode.proofs.number_of.Goals as goal

pub loop-byte-init : goal.loop-byte-init
loop-byte-init c = read_none _

pub loop-byte-preserved : goal.loop-byte-preserved
loop-byte-preserved c =
    let l = c.loop-byte in
    read_more c.args.bytes.now l.byte-index l.x _ l.invariant (omega arith) refl (omega (arith, c.type_inv.bytes l.byte-index))
