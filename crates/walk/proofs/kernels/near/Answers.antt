-- The least member from i on in i's word, then in the next word, else nothing, and then both are clear from i on.
use mathlib.Core.Path.{sym, ◌∙◌}
use native.Mathlib.Omega.{arith}
use Rattle.arch.proofs.Scans.{alike_to, alike_one}
use Rattle.pairs.specs.Pairs.{words_by}
use Rattle.pairs.proofs.Tables.{by_fit}
use Rattle.walk.proofs.Walks.{least64, word_below, here_below, clear_here, clear_on, next_here, next_later, below_at, below_none}
use Rattle.walk.proofs.kernels.near.Goals as goal

pub overflow_add-result : goal.overflow_add-result
overflow_add-result c =
    let g = c.args in
    omega (arith, c.trailing_zeros.ensures, here_below (words_by g.op g.a.now g.b.now) (by_fit _ _ _) _ _ c.word_at.ensures c.if-t-ne0.true)

pub returns-then-t-ne0 : goal.returns-then-t-ne0
returns-then-t-ne0 c = below_at (next_here _ (by_fit _ _ _) _ _ c.word_at.ensures c.if-t-ne0.true c.trailing_zeros.ensures)

pub overflow_mul-result-then-u-ne0 : goal.overflow_mul-result-then-u-ne0
overflow_mul-result-then-u-ne0 c =
    let g = c.args in
    omega (arith, word_below g.op g.a.now g.b.now _ _ c.word_at-u.ensures c.if-u-ne0.true (omega arith) (omega arith))

pub overflow_add-result-then-u-ne0-2 : goal.overflow_add-result-then-u-ne0-2
overflow_add-result-then-u-ne0-2 c =
    let u = c.word_at-u in
    let g = c.args in
    let below = word_below g.op g.a.now g.b.now _ _ u.ensures c.if-u-ne0.true (omega arith) (omega arith) in
    omega (arith, c.trailing_zeros-then-u-ne0.ensures, least64 u.result, below)

pub returns-then-u-ne0 : goal.returns-then-u-ne0
returns-then-u-ne0 c =
    let clear = clear_here _ (by_fit _ _ _) _ _ c.word_at.ensures c.if-t-ne0.false in
    below_at (next_later _ (by_fit _ _ _) clear c.word_at-u.ensures c.if-u-ne0.true c.trailing_zeros-then-u-ne0.ensures)

pub returns : goal.returns
returns c =
    below_none
    (clear_on _ (by_fit _ _ _) (clear_here _ (by_fit _ _ _) _ _ c.word_at.ensures c.if-t-ne0.false) (omega arith)
    (alike_to _ _ (alike_one _ _ _ (sym c.word_at-u.ensures ∙ c.if-u-ne0.false)) (omega arith) (omega arith)))
