-- Where a record ends: 0 in a sheet under three bytes, then where its first three bytes pass the end, then where its payload does, else the place after it.
use Prim.Native.Nat.{◌+◌}
use native.Mathlib.Omega.{arith}
use Rattle.frames.proofs.Walks.{torn, whole}
use Rattle.frames.proofs.record_end.Goals as goal

pub returns-then-sheet-lt3 : goal.returns-then-sheet-lt3
returns-then-sheet-lt3 c = torn _ _ (omega arith)

pub returns-then-at-last : goal.returns-then-at-last
returns-then-at-last c = torn _ _ (omega arith)

pub overflow_cast-n : goal.overflow_cast-n
overflow_cast-n c = omega (arith, c.shared_slice_known-1.given (c.args.at + 1))

pub overflow_mul-n : goal.overflow_mul-n
overflow_mul-n c = omega (arith, c.shared_slice_known-1.given (c.args.at + 1))

pub overflow_cast-n-2 : goal.overflow_cast-n-2
overflow_cast-n-2 c = omega (arith, c.shared_slice_known-2-1.given (c.args.at + 2))

pub overflow_add-n-3 : goal.overflow_add-n-3
overflow_add-n-3 c =
    let at = c.args.at in
    omega (arith, c.shared_slice_known-2-1.given (at + 1), c.shared_slice_known-2-1.given (at + 2))

pub returns-then-last-at : goal.returns-then-last-at
returns-then-last-at c = torn _ _ (omega arith)

pub returns : goal.returns
returns c = whole _ _ (omega arith)
