-- What a joiner makes of a token: a second one stops it, then one after a bad number does, for that number's fault, else that number is the left one.
use mathlib.Core.Path.{sym, ◌∙◌}
use Rattle.text.proofs.Steps.{by_joiner_twice, by_joiner_is}
use Rattle.text.proofs.by_joiner.Goals as goal
use Rattle.std.specs.Prelude.{Ok, Err}

pub returns-then-p-ne0 : goal.returns-then-p-ne0
returns-then-p-ne0 c = by_joiner_twice _ _ _ c.if-p-ne0.true

pub returns-in-Err : goal.returns-in-Err
returns-in-Err c = by_joiner_is _ _ (Err _) _ c.if-p-ne0.false (sym c.value_of.ensures ∙ c.in-Err.is)

pub returns-in-Ok : goal.returns-in-Ok
returns-in-Ok c = by_joiner_is _ _ (Ok _) _ c.if-p-ne0.false (sym c.value_of.ensures ∙ c.in-Ok.is)
