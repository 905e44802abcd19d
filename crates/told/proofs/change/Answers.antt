-- A change as four numbers: done, 0 and tag 2; refused, its number and tag 0; then the word count either way, and 0.
use mathlib.Core.Path.{sym, ap, ◌∙◌}
use borrow.Author.Rules.{rules}
use Rattle.told.specs.Tellings.{change_told}
use Rattle.told.proofs.change.Goals as goal

pub returns-in-Ok : goal.returns-in-Ok
returns-in-Ok c = record { number = search rules; tag = search rules; value = search rules; also = search rules }

pub returns-in-Err : goal.returns-in-Err
returns-in-Err c =
    let is = sym c.in-Err.is in
    record {
      number = c.four-in-Err.ensures.number ∙ c.number.ensures ∙ ap (λ x. (change_told x).number) is;
      tag = c.four-in-Err.ensures.tag ∙ ap (λ x. (change_told x).tag) is;
      value = c.four-in-Err.ensures.value ∙ ap (λ x. (change_told x).value) is;
      also = c.four-in-Err.ensures.also ∙ ap (λ x. (change_told x).also) is;
    }
