-- The guard, then the number of set bits in the words in use, which are too few for the count to wrap.
use mathlib.Core.Path.{sym, ap, ◌∙◌}
use Rattle.storage.proofs.Checks.{passed, reading_is}
use Rattle.scans.proofs.Scans.{count_is}
use Rattle.scans.proofs.count_set_bits.Goals as goal
use Rattle.std.specs.Prelude.{Ok}

pub returns : goal.returns
returns c =
    let ok = passed c.args.words.now c.args.b (sym c.in_ok-check.was ∙ c.check.ensures) in
    reading_is _ _ _ _ _ ok (ap Ok (count_is _ _ _ ok c.count_set_bits.ensures))
