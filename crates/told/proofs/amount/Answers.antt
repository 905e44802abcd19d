-- What is counted as four numbers: the count, or the refusal's number.
use Rattle.told.specs.Tellings.{amount_told}
use Rattle.told.proofs.Tellings.{told_of}
use Rattle.told.proofs.amount.Goals as goal

pub returns-in-Err : goal.returns-in-Err
returns-in-Err c = told_of amount_told c.refused.ensures c.in-Err.is
