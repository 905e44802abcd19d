-- The length of what stands before a piece: 0 where no byte came before, else 2 with a blank and 1 without.
use Rattle.print.proofs.Pieces.{gap_none, gap_two, gap-one}
use Rattle.print.proofs.gap_len.Goals as goal

pub returns-then-at-eq0 : goal.returns-then-at-eq0
returns-then-at-eq0 c = gap_none _ _ c.if-at-eq0.true

pub returns-then-blank : goal.returns-then-blank
returns-then-blank c = gap_two _ _ c.if-at-eq0.false c.if-blank.true

pub returns-else-blank : goal.returns-else-blank
returns-else-blank c = gap-one _ _ c.if-at-eq0.false c.if-blank.false
