-- 14 below edition 1, then over the latest, then the guard of both stores, then what `read_into` comes to; where that is refused the result is all zero.
use mathlib.Core.Path.{refl, sym, ◌∙◌}
use mathlib.Core.Bool.{true, false, false≢true}
use native.Mathlib.Omega.{arith}
use Rattle.storage.specs.Stores.{no_words}
use Rattle.storage.specs.Guards.{PassedTwo}
use Rattle.storage.proofs.Checks.{passed_two}
use Rattle.reader.proofs.Courses.{edition_under, edition-over, guard_stopped, reads_back}
use Rattle.reader.proofs.read.Goals as goal

pub returns-then-edition-lt1 : goal.returns-then-edition-lt1
returns-then-edition-lt1 c = edition_under _ _ _ _ _ (omega arith)

pub returns-then-edition-gt-LATEST : goal.returns-then-edition-gt-LATEST
returns-then-edition-gt-LATEST c = edition-over _ _ _ _ _ (omega arith)

pub returns-in-Err : goal.returns-in-Err
returns-in-Err c = guard_stopped _ _ _ _ _ (omega arith) (omega arith) _ (sym c.in-Err.is ∙ c.check_two.ensures)

pub read_into-read-requires : goal.read_into-read-requires
read_into-read-requires c =
    let ok : let a = c.args in PassedTwo a.words.now a.b a.res.now no_words =
    passed_two _ _ _ _ (sym c.in_default.is ∙ c.check_two.ensures) in
    let p = ok in (p.own, p.other)

pub returns-then-is_err : goal.returns-then-is_err
returns-then-is_err c =
    let ok : let a = c.args in PassedTwo a.words.now a.b a.res.now no_words =
    passed_two _ _ _ _ (sym c.in_default.is ∙ c.check_two.ensures) in
    let r = c.read_into-read in
    reads_back _ _ _ _ _ (omega arith) (omega arith) ok r.result r.new.res c.fill.new.self true
    (sym c.if-is_err.true ∙ c.is_err.ensures.value) r.ensures (λ t. c.fill.ensures.after (λ y p. p)) (λ t. absurd (false≢true (sym t)))

pub returns-else-is_err : goal.returns-else-is_err
returns-else-is_err c =
    let ok : let a = c.args in PassedTwo a.words.now a.b a.res.now no_words =
    passed_two _ _ _ _ (sym c.in_default.is ∙ c.check_two.ensures) in
    let r = c.read_into-read in
    reads_back _ _ _ _ _ (omega arith) (omega arith) ok r.result r.new.res r.new.res false
    (sym c.if-is_err.false ∙ c.is_err.ensures.value) r.ensures (λ t. absurd (false≢true t)) (λ t. refl)
