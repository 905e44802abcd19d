-- The guard, then the number of set bits below i, or below the length where i is past it.
use mathlib.Core.Path.{sym, ap, ◌∙◌}
use Rattle.storage.proofs.Checks.{passed, reading_ok}
use Rattle.bits.proofs.Counts.{rank-counted}
use Rattle.bits.proofs.rank.Goals as goal
use Rattle.std.specs.Prelude.{Ok}

pub returns : goal.returns
returns c =
    let ok = passed c.args.words.now c.args.b (sym c.in_ok-check.was ∙ c.check.ensures) in
    ap Ok (rank-counted _ _ _ _ _ ok.inside c.min.ensures c.count_between.ensures) ∙ sym (reading_ok _ _ _ _ ok)
