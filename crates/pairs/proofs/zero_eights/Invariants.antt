-- Loop: the words made from `from` on, in i eights, are 0.
use Prim.Native.Nat.{◌+◌, ◌*◌}
use Rattle.arch.specs.Scans.{Alike}
use Rattle.pairs.specs.Pairs.{words_by}
use Rattle.pairs.proofs.zero_eights.Given as goal

abbrev pub invariant-loop-i : goal.invariant-loop-i
invariant-loop-i l = Alike (words_by l.op l.a l.b) 0 l.from (l.from + 8 * l.i)
