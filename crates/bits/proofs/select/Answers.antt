-- The set bit with r set bits below it: the guard, then nothing where all words are passed, then by what is left of the rank in word `at`.
use mathlib.Core.Path.{sym, ◌∙◌}
use native.Mathlib.Omega.{arith}
use lib.Seq.{length-take-le}
use lib.ListN.{get_or}
use Rattle.word.specs.Places.{bit}
use Rattle.word.proofs.Sets.{nth-le}
use Rattle.storage.proofs.Checks.{passed, reading_ok}
use Rattle.bits.proofs.Ranks.{select_none, select_there}
use Rattle.bits.proofs.select.Goals as goal

pub returns-in_default : goal.returns-in_default
returns-in_default c =
    let ok = passed c.args.words.now c.args.b (sym c.in_ok-check.was ∙ c.check.ensures) in
    select_none _ _ _ ok.inside c.in_default.ensures ∙ sym (reading_ok _ _ _ _ ok)

pub overflow_add-result : goal.overflow_add-result
overflow_add-result c =
    let ok = passed c.args.words.now c.args.b (sym c.in_ok-check.was ∙ c.check.ensures) in
    omega (
      arith,
      c.in-Some.ensures,
      length-take-le c.args.b.count c.args.words.now ok.inside,
      c.select_u64.ensures,
      nth-le (bit (get_or c.args.words.now c.in-Some.field-0.at 0)) c.in-Some.field-0.left 64,
    )

pub returns : goal.returns
returns c =
    let ok = passed c.args.words.now c.args.b (sym c.in_ok-check.was ∙ c.check.ensures) in
    select_there _ _ _ _ _ _ ok.inside c.in-Some.ensures c.select_u64.ensures ∙ sym (reading_ok _ _ _ _ ok)
