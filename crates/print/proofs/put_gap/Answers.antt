-- What stands before a piece is put at a place: nothing where no byte came before, else a comma, and a blank in a style with one; the answer is the place after it.
use native.Mathlib.Omega.{arith}
use lib.ListN.{length-set}
use Rattle.print.proofs.Pieces.{gap-room, gap_two, puts_gap_none, puts_gap_two, puts_gap_one}
use Rattle.print.proofs.put_gap.Goals as goal

pub returns-then-at-eq0 : goal.returns-then-at-eq0
returns-then-at-eq0 c = puts_gap_none _ _ _ c.if-at-eq0.true

pub bounds-out-at : goal.bounds-out-at
bounds-out-at c = omega (arith, c.requires, gap-room c.args.blank _ c.if-at-eq0.false)

pub bounds-out-at-then-blank : goal.bounds-out-at-then-blank
bounds-out-at-then-blank c = omega (arith, c.requires, gap_two _ _ c.if-at-eq0.false c.if-blank.true, length-set c.args.out.now c.args.at 44)

pub returns-then-blank : goal.returns-then-blank
returns-then-blank c = puts_gap_two _ _ _ c.if-at-eq0.false c.if-blank.true c.requires

pub returns : goal.returns
returns c = puts_gap_one _ _ _ c.if-at-eq0.false c.if-blank.false c.requires
