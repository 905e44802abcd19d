-- Blanks are put, and the line's end behind them.
use native.Mathlib.Omega.{arith}
use Rattle.register.proofs.Lines.{end-place, end_puts}
use Rattle.register.proofs.put_end.Goals as goal

pub put_blanks-p-requires : goal.put_blanks-p-requires
put_blanks-p-requires c = omega (arith, c.requires)

pub bounds-out-p : goal.bounds-out-p
bounds-out-p c = end-place _ _ _ c.requires _ _ c.put_blanks-p.ensures

pub overflow_add-result : goal.overflow_add-result
overflow_add-result c = omega (arith, end-place _ _ _ c.requires _ _ c.put_blanks-p.ensures)

pub returns : goal.returns
returns c = end_puts _ _ _ c.requires _ _ c.put_blanks-p.ensures
