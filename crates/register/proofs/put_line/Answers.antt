-- A line of three numbers is put: three columns, 36 blanks and the line's end.
use native.Mathlib.Omega.{arith}
use Rattle.register.proofs.Lines.{first_room, second_room, third_room, line_puts}
use Rattle.register.proofs.put_line.Goals as goal

pub put_column-p-requires : goal.put_column-p-requires
put_column-p-requires c = (c.requires.0, omega (arith, c.requires.3))

pub put_column-q-requires : goal.put_column-q-requires
put_column-q-requires c = (c.requires.1, first_room _ _ _ _ _ c.requires.0 c.requires.1 c.requires.2 c.requires.3 _ _ c.put_column-p.ensures)

pub put_column-s-requires : goal.put_column-s-requires
put_column-s-requires c = (
  c.requires.2,
  second_room _ _ _ _ _ c.requires.0 c.requires.1 c.requires.2 c.requires.3 _ _ c.put_column-p.ensures _ _ c.put_column-q.ensures,
)

pub put_end-requires : goal.put_end-requires
put_end-requires c =
    third_room _ _ _ _ _ c.requires.0 c.requires.1 c.requires.2 c.requires.3 _ _ c.put_column-p.ensures _ _ c.put_column-q.ensures _ _
    c.put_column-s.ensures

pub returns : goal.returns
returns c =
    (line_puts _ _ _ _ _ c.requires.0 c.requires.1 c.requires.2 c.requires.3 _ _ c.put_column-p.ensures _ _ c.put_column-q.ensures _ _
    c.put_column-s.ensures _ _ c.put_end.ensures).leaves
