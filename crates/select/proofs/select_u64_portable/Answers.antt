-- 64 where x has at most n set bits, else the place of the n-th one by the table that is lent.
use mathlib.Core.Path.{sym}
use native.Mathlib.Omega.{arith}
use Rattle.select.proofs.Table.{select_none}
use Rattle.select.proofs.select_u64_portable.Goals as goal

pub returns-then-n-count_ones : goal.returns-then-n-count_ones
returns-then-n-count_ones c = sym (select_none _ _ _ (omega arith))
