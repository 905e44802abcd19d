-- The listed bits are set and the others stay. Loop: those before the index are set, all others are as they were.
use lib.ListN.{take}
use Rattle.bitmap.specs.Kernels.{SetsListed}
use Rattle.bitmap.proofs.set_listed.Given as goal

abbrev pub invariant-loop-i : goal.invariant-loop-i
invariant-loop-i l = SetsListed l.initial.words (take l.i-index l.bits) l.words
