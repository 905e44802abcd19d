-- The digits are put where they fit, the answer being the place after them; else nothing is put, and the answer is the place given.
use mathlib.Core.Path.{ap}
use Prim.Native.Nat.{ℕ, ◌+◌}
use native.Mathlib.Omega.{arith}
use Rattle.print.proofs.Buffer.{decimal_lacks, decimal-fits}
use Rattle.print.proofs.put_decimal.Goals as goal

pub returns-then-at-out : goal.returns-then-at-out
returns-then-at-out c = decimal_lacks _ _ _ (omega (arith, c.if-at-out.true))

pub returns-then-len-out : goal.returns-then-len-out
returns-then-len-out c = decimal_lacks _ _ _ (omega (arith, c.if-len-out.true, c.decimal_len-len.ensures, c.if-at-out.false))

pub overflow_add-at : goal.overflow_add-at
overflow_add-at c = omega (arith, c.if-len-out.false, c.if-at-out.false)

pub put_digits-requires : goal.put_digits-requires
put_digits-requires c = (omega (arith, c.decimal_len-len.ensures), omega (arith, c.if-len-out.false, c.if-at-out.false))

pub overflow_add-result : goal.overflow_add-result
overflow_add-result c = omega (arith, c.if-len-out.false, c.if-at-out.false)

pub returns : goal.returns
returns c =
    decimal-fits _ _ _ (omega (arith, c.if-len-out.false, c.decimal_len-len.ensures, c.if-at-out.false)) _ _
    (record { next = ap (λ (d : ℕ). c.args.at + d) c.decimal_len-len.ensures; leaves = c.put_digits.ensures })
