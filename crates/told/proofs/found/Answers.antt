-- A search's answer as four numbers: the place, or nothing, or the refusal's number.
use Rattle.told.specs.Tellings.{found_told}
use Rattle.told.proofs.Tellings.{told_of}
use Rattle.told.proofs.found.Goals as goal

pub returns-in-Err : goal.returns-in-Err
returns-in-Err c = told_of found_told c.refused.ensures c.in-Err.is
