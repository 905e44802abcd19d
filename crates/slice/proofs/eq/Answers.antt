-- The guard of both stores, then false where the parts without trailing zeros differ in length, then whether xor makes only zeros of them.
use mathlib.Core.Path.{sym, ap, ◌∙◌}
use native.Mathlib.Omega.{arith}
use Rattle.storage.proofs.Checks.{passed_two, both_ok}
use Rattle.slice.proofs.Equals.{equal-not, equal_is}
use Rattle.slice.proofs.eq.Goals as goal
use Rattle.std.specs.Prelude.{Ok}

-- the front parts have another length
pub returns-then-x-y : goal.returns-then-x-y
returns-then-x-y c =
    let ok = passed_two c.args.words.now c.args.b c.args.other.now c.args.o (sym c.in_ok-check_two.was ∙ c.check_two.ensures) in
    ap Ok
    (equal-not _ _ _ _ ok.own.inside ok.other.inside _ _ c.trimmed-x.ensures c.trimmed-y.ensures
    (search arith)
    (search arith) c.if-x-y.true)
    ∙ sym (both_ok _ _ _ _ _ _ ok)

pub returns : goal.returns
returns c =
    let ok = passed_two c.args.words.now c.args.b c.args.other.now c.args.o (sym c.in_ok-check_two.was ∙ c.check_two.ensures) in
    let e = equal_is _ _ _ _ ok.own.inside ok.other.inside _ _ c.trimmed-x.ensures c.trimmed-y.ensures in
    ap Ok (c.is_zero.ensures ∙ e) ∙ sym (both_ok _ _ _ _ _ _ ok)
