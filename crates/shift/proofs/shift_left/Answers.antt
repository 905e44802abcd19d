-- The bits go k up and those that pass the length are lost.
use mathlib.Core.Path.{refl}
use Rattle.std.proofs.Common.{rules}
use Rattle.shifts.specs.Shifts.{shifting_left, moved_up}
use Rattle.shift.proofs.shift_left.Goals as goal

pub returns : goal.returns
unfolding shifting_left
returns c = c.keep_count.ensures (shifting_left c.args.k) (λ len. moved_up c.args.k) (λ ws ws' p. search rules) (λ d b. refl)
