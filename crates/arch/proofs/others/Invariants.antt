-- Loop: where nothing is joined yet, the words before are x.
use Rattle.std.proofs.Common.{◌≡◌}
use Rattle.arch.specs.Scans.{Alike}
use Rattle.arch.proofs.others.Given as goal

abbrev pub invariant-loop-word : goal.invariant-loop-word
invariant-loop-word l = l.some ≡ 0 → Alike l.eight l.x 0 l.word-index
