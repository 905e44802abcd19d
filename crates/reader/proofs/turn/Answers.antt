-- A record whose first byte is below 128 is a remark and does nothing; another is what `perform` makes of its kind and payload.
use mathlib.Core.Path.{refl}
use native.Mathlib.Omega.{arith}
use Rattle.reader.proofs.Turns.{remark, acts}
use Rattle.reader.proofs.turn.Goals as goal

pub overflow_cast-first : goal.overflow_cast-first
overflow_cast-first c = omega (arith, c.shared_slice_known-2-1.given c.args.at)

pub returns-then-first-lt128 : goal.returns-then-first-lt128
returns-then-first-lt128 c =
    let a = c.args in
    remark a.edition a.sheet.now a.at _ refl a.words.now a.b (λ k. omega (arith, c.slice_known-1.given k)) (omega arith)

pub returns : goal.returns
returns c =
    let a = c.args in
    acts a.edition a.sheet.now a.at _ refl a.end a.words.now c.perform.new.words a.b
    c.perform.result c.requires.0 (omega arith) c.perform.ensures
