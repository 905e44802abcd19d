-- The length of a range: the digits of both numbers and one for the joiner.
use native.Mathlib.Omega.{arith}
use Rattle.print.proofs.Pieces.{two_length, ten_digits, counted}
use Rattle.print.proofs.pair_len.Goals as goal

pub overflow_add-result : goal.overflow_add-result
overflow_add-result c =
    omega (
      arith,
      c.digits.ensures,
      ten_digits _ (counted _ c.requires.0 c.args.a (omega (arith, c.requires.1, c.requires.2))),
    )

pub overflow_add-result-2 : goal.overflow_add-result-2
overflow_add-result-2 c =
    omega (
      arith,
      c.digits.ensures,
      c.digits-2.ensures,
      ten_digits _
          (counted _ c.requires.0 c.args.a
          (omega (arith, c.requires.1, c.requires.2))),
      ten_digits _ (counted _ c.requires.0 _ c.requires.2),
    )

pub returns : goal.returns
returns c =
    omega (
      arith,
      c.digits.ensures,
      c.digits-2.ensures,
      two_length c.args.style c.args.a c.args.b
          (λ e. omega (arith, c.requires.1, e)),
    )
