-- What a digit makes of a token, by the phase: 0, it begins the number; 1, it is one digit more; else the token stops.
use Rattle.text.proofs.Steps.{by_digit_none, by_digit_open, by_digit-closed}
use Rattle.text.proofs.by_digit.Goals as goal

pub returns-then-p-eq0 : goal.returns-then-p-eq0
returns-then-p-eq0 c = by_digit_none _ _ _ _ c.if-p-eq0.true

pub returns-then-p-eq1 : goal.returns-then-p-eq1
returns-then-p-eq1 c = by_digit_open _ _ _ _ _ c.if-p-eq1.true c.grown.ensures

pub returns : goal.returns
returns c = by_digit-closed _ _ _ _ c.if-p-eq0.false c.if-p-eq1.false
