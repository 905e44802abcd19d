-- The bits below the length turn k up within it.
use mathlib.Core.Path.{refl}
use Rattle.std.proofs.Common.{rules}
use Rattle.shifts.specs.Shifts.{rotating_left, turned_up}
use Rattle.shift.proofs.rotate_left.Goals as goal

pub returns : goal.returns
unfolding rotating_left
returns c = c.keep_count.ensures (rotating_left c.args.k) (λ len. turned_up len c.args.k) (λ ws ws' p. search rules) (λ d b. refl)
