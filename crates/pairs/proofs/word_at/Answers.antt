-- Word k of what the operation makes: the operation of word k of both, where a slice past its end has 0.
use mathlib.Core.Path.{sym, ap₂, ◌∙◌}
use Rattle.pairs.specs.Pairs.{word_by}
use Rattle.pairs.proofs.Tables.{by_at}
use Rattle.pairs.proofs.word_at.Goals as goal

pub returns : goal.returns
returns c = c.word.ensures ∙ ap₂ (word_by c.args.op) c.word_at.ensures c.word_at-2.ensures ∙ sym (by_at _ _ _ _)
