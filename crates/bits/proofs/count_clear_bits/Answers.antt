-- The guard, then the bits below the length less the set ones, which are no more.
use mathlib.Core.Path.{sym, ap, ◌∙◌}
use native.Mathlib.Omega.{arith}
use Rattle.storage.proofs.Checks.{passed, reading_ok}
use Rattle.bits.proofs.Counts.{clear_size_lem, counted-le}
use Rattle.bits.proofs.count_clear_bits.Goals as goal
use Rattle.std.specs.Prelude.{Ok}

pub overflow_sub-result : goal.overflow_sub-result
overflow_sub-result c =
    let ok = passed c.args.words.now c.args.b (sym c.in_ok-check.was ∙ c.check.ensures) in
    omega (arith, counted-le _ _ _ ok c.count_set_bits.ensures)

pub returns : goal.returns
returns c =
    let ok = passed c.args.words.now c.args.b (sym c.in_ok-check.was ∙ c.check.ensures) in
    ap Ok (clear_size_lem _ _ _ ok c.count_set_bits.ensures) ∙ sym (reading_ok _ _ _ _ ok)
