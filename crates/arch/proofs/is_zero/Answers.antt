-- No word other than 0 is found exactly where every word is 0.
use Rattle.arch.proofs.Scans.{none_found}
use Rattle.arch.proofs.is_zero.Goals as goal

pub returns : goal.returns
returns c = none_found _ _ _ c.first_nonzero.ensures c.is_none.ensures
