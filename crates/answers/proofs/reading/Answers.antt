-- A reading's record and count go out: its own where it is done, its record and 0 where it is refused; the number is returned.
use mathlib.Core.Path.{sym, ap, ◌∙◌}
use Rattle.sheet.specs.Reads.{reading_number, reading_record, reading_count}
use Rattle.answers.proofs.reading.Goals as goal

pub returns-in-Err : goal.returns-in-Err
returns-in-Err c =
    let is = sym c.in-Err.is in
    record { number = c.number.ensures ∙ ap reading_number is; at = ap reading_record is; count = ap reading_count is }
