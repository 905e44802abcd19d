-- The guard, then nothing where every word is 0, then the highest set bit of the last word that is not 0.
use mathlib.Core.Path.{sym, ◌∙◌}
use native.Mathlib.Omega.{arith}
use Rattle.storage.proofs.Checks.{passed, reading_is}
use Rattle.scans.proofs.Scans.{last_none, last-at, zeros_less}
use Rattle.scans.proofs.last_set.Goals as goal

pub returns-then-m-eq0 : goal.returns-then-m-eq0
returns-then-m-eq0 c =
    let ok = passed c.args.words.now c.args.b (sym c.in_ok-check.was ∙ c.check.ensures) in
    reading_is _ _ _ _ _ ok
    (last_none _ _ _ ok.inside
    (search arith) c.nonzero_len-m.ensures
    c.if-m-eq0.true)

pub overflow_sub-result-2 : goal.overflow_sub-result-2
overflow_sub-result-2 c =
    let ok = passed c.args.words.now c.args.b (sym c.in_ok-check.was ∙ c.check.ensures) in
    zeros_less _ _ _ ok.inside
    (search arith)
    c.nonzero_len-m.ensures _ (omega (arith, c.if-m-eq0.false)) c.leading_zeros.ensures

pub returns : goal.returns
returns c =
    let ok = passed c.args.words.now c.args.b (sym c.in_ok-check.was ∙ c.check.ensures) in
    reading_is _ _ _ _ _ ok
    (last-at _ _ _ ok.inside
    (search arith)
    c.nonzero_len-m.ensures _ (omega (arith, c.if-m-eq0.false)) c.leading_zeros.ensures)
