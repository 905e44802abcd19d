-- How many of the eight bytes are at most n: as n and the bytes leave each top bit free, no byte borrows of the next.
use mathlib.Core.Path.{◌∙◌, ap}
use Prim.Native.Nat.{ℕ, ◌/◌, ◌^◌}
use Rattle.select.proofs.Before.{no_borrow, before}
use Rattle.select.proofs.bytes_before.Goals as goal

pub overflow_sub-before : goal.overflow_sub-before
overflow_sub-before c = no_borrow c.args.cumulative c.args.n c.ranges.cumulative.fits c.requires

pub returns : goal.returns
returns c =
    ap (λ (y : ℕ). y / 2 ^ 56) c.wrapping_mul.ensures
    ∙ before c.args.cumulative c.args.n c.ranges.cumulative.fits c.requires
