-- What is tested as four numbers: 1 or 0, or the refusal's number.
use Rattle.told.specs.Tellings.{truth_told}
use Rattle.told.proofs.Tellings.{told_of}
use Rattle.told.proofs.truth.Goals as goal

pub returns-in-Err : goal.returns-in-Err
returns-in-Err c = told_of truth_told c.refused.ensures c.in-Err.is
