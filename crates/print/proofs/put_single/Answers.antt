-- A number is put after what stands before it; the answer is the place after it.
use mathlib.Core.Path.{refl}
use native.Mathlib.Omega.{arith}
use Rattle.print.proofs.Pieces.{counted, first_room, piece_one}
use Rattle.print.proofs.put_single.Goals as goal

pub put_gap-start-requires : goal.put_gap-start-requires
put_gap-start-requires c = omega (arith, c.requires.2)

pub overflow_add-x : goal.overflow_add-x
overflow_add-x c = omega (arith, counted _ c.requires.0 _ c.requires.1)

pub put_number-requires : goal.put_number-requires
put_number-requires c = (
  counted _ c.requires.0 _ c.requires.1,
  first_room _ _ _ _ _ c.requires.2 _ _ c.put_gap-start.ensures,
)

pub returns : goal.returns
returns c =
    piece_one _ _ _ _ _ c.requires.2 _ _
    c.put_gap-start.ensures _ _ c.put_number.ensures refl
