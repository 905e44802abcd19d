-- A duty record is refused as `edit_of` refuses it, or is what its edit's step does.
use mathlib.Core.Path.{sym, ◌∙◌}
use Rattle.reader.proofs.Turns.{duty_refused, duty_does}
use Rattle.reader.proofs.perform.Goals as goal

pub returns-in-Err : goal.returns-in-Err
returns-in-Err c =
    let a = c.args in
    duty_refused a.edition a.kind a.payload.now a.words.now a.b c.in-Err.why
    (sym c.in-Err.is ∙ c.edit_of.ensures)

pub returns-in-Ok : goal.returns-in-Ok
returns-in-Ok c =
    let a = c.args in
    duty_does a.edition a.kind a.payload.now a.words.now a.b c.in-Ok.e
    (sym c.in-Ok.is ∙ c.edit_of.ensures) c.requires c.apply.result c.apply.new.words
    c.apply.ensures
