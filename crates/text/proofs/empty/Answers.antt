-- Whether nothing but blanks is read of a token: where no joiner came, by whether no digit did; after a joiner, false.
use Rattle.text.proofs.Steps.{empty_none, empty_some}
use Rattle.text.proofs.empty.Goals as goal

pub returns-then-p-eq0 : goal.returns-then-p-eq0
returns-then-p-eq0 c = empty_none c.args.p c.if-p-eq0.true

pub returns-else-p-eq0 : goal.returns-else-p-eq0
returns-else-p-eq0 c = empty_some c.args.p c.if-p-eq0.false
