-- A split as four numbers: done, 0, tag 2 and both word counts; refused, its number, tag 0, its word count and 0.
use mathlib.Core.Path.{sym, ap, ◌∙◌}
use borrow.Author.Rules.{rules}
use Rattle.told.specs.Tellings.{split_told}
use Rattle.told.proofs.split.Goals as goal

pub returns-in-Ok : goal.returns-in-Ok
returns-in-Ok c = record { number = search rules; tag = search rules; value = search rules; also = search rules }

pub returns-in-Err : goal.returns-in-Err
returns-in-Err c =
    let is = sym c.in-Err.is in
    record {
      number = c.four-in-Err.ensures.number ∙ c.number.ensures ∙ ap (λ x. (split_told x).number) is;
      tag = c.four-in-Err.ensures.tag ∙ ap (λ x. (split_told x).tag) is;
      value = c.four-in-Err.ensures.value ∙ ap (λ x. (split_told x).value) is;
      also = c.four-in-Err.ensures.also ∙ ap (λ x. (split_told x).also) is;
    }
