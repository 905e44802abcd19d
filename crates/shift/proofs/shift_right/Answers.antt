-- The bits go k down and those below k are lost.
use mathlib.Core.Path.{refl}
use Rattle.std.proofs.Common.{rules}
use Rattle.shifts.specs.Shifts.{shifting_right, moved_down}
use Rattle.shift.proofs.shift_right.Goals as goal

pub returns : goal.returns
unfolding shifting_right
returns c = c.keep_count.ensures (shifting_right c.args.k) (λ len. moved_down c.args.k) (λ ws ws' p. search rules) (λ d b. refl)
