-- The pair's 64 bits from place `down` up.
use Rattle.std.proofs.Common.{◌^◌, refl, arith}
use Rattle.std.proofs.Math.Nat.{div-le_self}
use Rattle.shift.proofs.Steps.{step_is}
use Rattle.shift.proofs.step.Goals as goal

pub returns : goal.returns
returns c = step_is 64 c.args.lo c.args.hi c.args.down c.args.up _ _ (omega arith) (omega arith) (omega (arith, div-le_self c.args.lo (2 ^ c.args.down))) refl refl
