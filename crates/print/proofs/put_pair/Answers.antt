-- A range is put after what stands before it: two numbers with the joiner between; the answer is the place after it.
use mathlib.Core.Path.{◌≡◌}
use native.Mathlib.Omega.{arith}
use Prim.Native.Nat.{ℕ, ◌≤◌, ◌<◌}
use Rattle.text.specs.Lists.{list_limit}
use Rattle.print.proofs.Pieces.{counted, first_room, joiner_room, last-room, piece_two, long₃}
use Rattle.print.proofs.put_pair.Goals as goal

-- the numbers differ, and the first is within the limit too
apart : {a b : ℕ} → a < b → a ≡ b → ⊥
apart h e = omega arith

below : {a b : ℕ} → a < b → b ≤ list_limit → a ≤ list_limit
below h l = omega arith

pub put_gap-start-requires : goal.put_gap-start-requires
put_gap-start-requires c = omega (arith, c.requires.3)

pub overflow_add-a : goal.overflow_add-a
overflow_add-a c =
    omega (
      arith,
      counted _ c.requires.0 _
          (below c.requires.1 c.requires.2),
    )

pub put_number-next-requires : goal.put_number-next-requires
put_number-next-requires c = (
  counted _ c.requires.0 _
      (below c.requires.1 c.requires.2),
  first_room _ _ _ _ _ c.requires.3 _ _ c.put_gap-start.ensures,
)

pub overflow_cast-out : goal.overflow_cast-out
overflow_cast-out c = omega (arith, c.requires.0.joiner.printable.1)

pub bounds-out-next : goal.bounds-out-next
bounds-out-next c =
    joiner_room _ _ _ _ _ c.requires.3 _ _
    c.put_gap-start.ensures _ _ c.put_number-next.ensures
    (apart c.requires.1)

pub overflow_add-next : goal.overflow_add-next
overflow_add-next c =
    omega (
      arith,
      joiner_room _ _ _ _ _ c.requires.3 _ _
          c.put_gap-start.ensures _ _ c.put_number-next.ensures
          (apart c.requires.1),
    )

pub overflow_add-b : goal.overflow_add-b
overflow_add-b c =
    omega (
      arith,
      counted _ c.requires.0 _
          c.requires.2,
    )

pub put_number-requires : goal.put_number-requires
put_number-requires c = (
  counted _ c.requires.0 _
      c.requires.2,
  last-room _ _ _ _ _ c.requires.3 _ _
      c.put_gap-start.ensures _ _ c.put_number-next.ensures
      (apart c.requires.1),
)

pub shape_of-out : goal.shape_of-out
shape_of-out c =
    long₃ _ _ _ _ _ c.requires.3 _ _
    c.put_gap-start.ensures _ _
    c.put_number-next.ensures
    (apart c.requires.1) _ _
    c.put_number.ensures

pub returns : goal.returns
returns c =
    piece_two _ _ _ _ _ c.requires.3 _ _
    c.put_gap-start.ensures _ _
    c.put_number-next.ensures
    (apart c.requires.1) _ _
    c.put_number.ensures
