-- A number is put into its column: blanks, then its digits.
use native.Mathlib.Omega.{arith}
use Rattle.register.proofs.Lines.{narrow_digits, column_puts}
use Rattle.register.proofs.put_column.Goals as goal

pub overflow_sub-decimal_len : goal.overflow_sub-decimal_len
overflow_sub-decimal_len c = omega (arith, c.decimal_len.ensures, narrow_digits _ c.requires.0)

pub put_blanks-p-requires : goal.put_blanks-p-requires
put_blanks-p-requires c = omega (arith, c.requires.1)

pub returns : goal.returns
returns c =
    column_puts _ _ _ c.requires.0 c.requires.1 _ c.decimal_len.ensures _ _ _ _ c.put_blanks-p.ensures c.put_decimal.ensures
