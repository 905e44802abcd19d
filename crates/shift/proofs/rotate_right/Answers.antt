-- The bits below the length turn k down within it.
use mathlib.Core.Path.{refl}
use Rattle.std.proofs.Common.{rules}
use Rattle.shifts.specs.Shifts.{rotating_right, turned_down}
use Rattle.shift.proofs.rotate_right.Goals as goal

pub returns : goal.returns
unfolding rotating_right
returns c = c.keep_count.ensures (rotating_right c.args.k) (λ len. turned_down len c.args.k) (λ ws ws' p. search rules) (λ d b. refl)
