-- The guard of both stores, then 6 where the longer has no space, then the members of either, in as many words as the longer.
use mathlib.Core.Path.{sym, ◌∙◌}
use native.Mathlib.Omega.{arith}
use lib.Seq.{length-take-le}
use Rattle.storage.specs.Guards.{PassedTwo}
use Rattle.storage.proofs.Checks.{passed_two}
use Rattle.storage.proofs.Stores.{two_raised}
use Rattle.setops.proofs.Combine.{union-refused, union_done}
use Rattle.setops.proofs.or.Goals as goal

pub returns-in_err-check_two : goal.returns-in_err-check_two
returns-in_err-check_two c = two_raised _ _ _ _ _ c.from_residual.ensures (sym c.in_err-check_two.was ∙ c.check_two.ensures)

pub returns-then-end-words : goal.returns-then-end-words
returns-then-end-words c =
    let ok : let a = c.args in PassedTwo a.words.now a.b a.other.now a.o =
    passed_two _ _ _ _ (sym c.in_ok-check_two.was ∙ c.check_two.ensures) in
    union-refused _ _ _ _ ok _ c.max-end.ensures c.if-end-words.true

pub slice_bounds-put-end : goal.slice_bounds-put-end
slice_bounds-put-end c =
    let ok : let a = c.args in PassedTwo a.words.now a.b a.other.now a.o =
    passed_two _ _ _ _ (sym c.in_ok-check_two.was ∙ c.check_two.ensures) in
    sym (length-take-le _ _ ok.other.inside)

pub put-requires : goal.put-requires
put-requires c =
    let ok : let a = c.args in PassedTwo a.words.now a.b a.other.now a.o =
    passed_two _ _ _ _ (sym c.in_ok-check_two.was ∙ c.check_two.ensures) in
    let p = ok in
    let a = c.args in (
      omega (arith, p.own.inside),
      omega (arith, c.if-end-words.false),
      omega (arith, c.max-end.ensures, length-take-le a.o.count a.other.now p.other.inside),
    )

pub returns : goal.returns
returns c =
    let ok : let a = c.args in PassedTwo a.words.now a.b a.other.now a.o =
    passed_two _ _ _ _ (sym c.in_ok-check_two.was ∙ c.check_two.ensures) in
    union_done _ _ _ _ ok _ c.max-end.ensures _ (omega (arith, c.if-end-words.false)) c.put.ensures
