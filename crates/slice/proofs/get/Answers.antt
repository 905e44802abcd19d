-- Whether i is a member: the guard, then false past the length, then the bit of the word.
use mathlib.Core.Path.{sym, ap, ◌∙◌}
use native.Mathlib.Omega.{arith}
use Rattle.slice.proofs.Fields.{bit_of_lem}
use Rattle.storage.proofs.Checks.{passed, reading_is}
use Rattle.storage.proofs.Views.{view_out}
use Rattle.slice.proofs.get.Goals as goal
use Rattle.std.specs.Prelude.{Ok}

pub returns-then-k-n : goal.returns-then-k-n
returns-then-k-n c =
    let ok = passed c.args.words.now c.args.b (sym c.in_ok-check.was ∙ c.check.ensures) in
    reading_is _ _ _ _ _ ok (ap Ok (sym (view_out _ _ _ (omega arith))))

pub returns : goal.returns
returns c =
    let ok = passed c.args.words.now c.args.b (sym c.in_ok-check.was ∙ c.check.ensures) in
    reading_is _ _ _ _ _ ok (ap Ok (bit_of_lem _ _ _ (omega arith)))
