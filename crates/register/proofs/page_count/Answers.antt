-- How many pages some runs take: one where there is none.
use native.Mathlib.Omega.{arith}
use Rattle.register.specs.Register.{pages_for}
use Rattle.register.proofs.page_count.Goals as goal

pub returns : goal.returns
unfolding pages_for
returns c = omega (arith, c.max.ensures, c.div_ceil.ensures)
