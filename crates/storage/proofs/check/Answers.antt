-- 1 for a store over the limit, then 2 for a count over its store, else the call may go on.
use mathlib.Core.Path.{sym}
use native.Mathlib.Omega.{arith}
use Rattle.storage.specs.Refusals.{passing, refusing}
use Rattle.storage.proofs.Checks.{checked_ok, checked_long, checked-over}
use Rattle.storage.proofs.check.Goals as goal

pub returns-then-words-gt-LIMIT : goal.returns-then-words-gt-LIMIT
returns-then-words-gt-LIMIT c = sym (checked_long _ _ (refusing c.args.b) passing (omega arith))

pub returns-then-b-words : goal.returns-then-b-words
returns-then-b-words c = sym (checked-over _ _ (refusing c.args.b) passing (omega arith) (omega arith))

pub returns : goal.returns
returns c = sym (checked_ok _ _ (refusing c.args.b) passing (record { short = omega arith; inside = omega arith }))
