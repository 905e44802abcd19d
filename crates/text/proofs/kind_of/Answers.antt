-- What a byte is to a list: a digit with its value, then a blank, then the joiner, then the comma, then any other.
use mathlib.Core.Path.{sym, ◌∙◌}
use borrow.Author.Tests.{leb-true}
use Rattle.word.proofs.Cases.{and-true}
use Rattle.text.proofs.Steps.{kind-digit, kind-blank, kind_joiner, kind-comma, kind_other}
use Rattle.text.proofs.kind_of.Goals as goal

pub overflow_sub-result : goal.overflow_sub-result
overflow_sub-result c = leb-true 48 _ (and-true _ _ (sym c.is_digit.ensures ∙ c.if-is_digit.true)).0

pub returns-then-is_digit : goal.returns-then-is_digit
returns-then-is_digit c = kind-digit _ _ (sym c.is_digit.ensures ∙ c.if-is_digit.true)

pub returns-then-is_blank : goal.returns-then-is_blank
returns-then-is_blank c = kind-blank _ _ (sym c.is_digit.ensures ∙ c.if-is_digit.false) (sym c.is_blank.ensures ∙ c.if-is_blank.true)

pub returns-then-c-joiner : goal.returns-then-c-joiner
returns-then-c-joiner c =
    kind_joiner _ _ (sym c.is_digit.ensures ∙ c.if-is_digit.false)
    (sym c.is_blank.ensures ∙ c.if-is_blank.false) c.if-c-joiner.true

pub returns-then-c-eq-COMMA : goal.returns-then-c-eq-COMMA
returns-then-c-eq-COMMA c =
    kind-comma _ _ (sym c.is_digit.ensures ∙ c.if-is_digit.false)
    (sym c.is_blank.ensures ∙ c.if-is_blank.false) c.if-c-joiner.false c.if-c-eq-COMMA.true

pub returns : goal.returns
returns c =
    kind_other _ _ (sym c.is_digit.ensures ∙ c.if-is_digit.false)
    (sym c.is_blank.ensures ∙ c.if-is_blank.false) c.if-c-joiner.false c.if-c-eq-COMMA.false
