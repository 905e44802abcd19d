-- The listed bits are set and the others stay. Loop: those before the index are set, all others are as they were.
use native.Mathlib.Omega.{arith}
use Rattle.bitmaps.proofs.Cases.{reach_in}
use Rattle.bitmap.proofs.Many.{listed_none, listed_next}
use Rattle.bitmap.proofs.set_listed.Goals as goal

pub loop-i-init : goal.loop-i-init
loop-i-init c = listed_none _ c.args.bits.now

pub bounds-words-i : goal.bounds-words-i
bounds-words-i c = omega (arith, reach_in c.args.bits.now c.loop-i.i-index (omega arith), c.loop-i.invariant.long)

pub bounds-words-i-in-loop-i : goal.bounds-words-i-in-loop-i
bounds-words-i-in-loop-i c = omega (arith, reach_in c.args.bits.now c.loop-i.i-index (omega arith), c.loop-i.invariant.long)

pub loop-i-preserved : goal.loop-i-preserved
loop-i-preserved c =
    let l = c.loop-i in
    listed_next c.args.words.now c.args.bits.now _ l.i-index _ l.invariant (omega arith) (omega (arith, reach_in c.args.bits.now l.i-index (omega arith))) c.bit.ensures
