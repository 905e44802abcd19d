-- The place of the n-th set bit, 64 if there is none: the constant is the table of the rule, each of its 2,048 entries computed.
use mathlib.Core.Path.{refl}
use Rattle.word.specs.Sets.{count_below, nth}
use Rattle.word.specs.Places.{bit, tab_from}
use Rattle.select.specs.Select.{select_table}
use Rattle.select.proofs.Table.{select_by_rule}
use Rattle.select.proofs.select_u64.Goals as goal

-- the constant is the table of the rule: all 2,048 entries are computed
pub returns : goal.returns
unfolding select_table tab_from nth count_below bit
returns c = select_by_rule _ _ _ _ c.select_u64_portable.ensures refl
