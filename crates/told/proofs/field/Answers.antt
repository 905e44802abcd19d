-- A field as four numbers: its bits, or the refusal's number.
use Rattle.told.specs.Tellings.{amount_told}
use Rattle.told.proofs.Tellings.{told_of}
use Rattle.told.proofs.field.Goals as goal

pub returns-in-Err : goal.returns-in-Err
returns-in-Err c = told_of amount_told c.refused.ensures c.in-Err.is
