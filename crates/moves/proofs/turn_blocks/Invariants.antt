-- The last m words go before the others. Loop: behind `low` and `high` all are in place, the first `low` are due `high` up, the next `high` are due `low` down.
use mathlib.Core.Path.{◌≡◌}
use Prim.Native.Nat.{◌+◌, ◌≤◌}
use lib.ListN.{length, get_or}
use Rattle.moves.specs.Moves.{turned_words}
use Rattle.moves.proofs.Swaps.{Turning}
use Rattle.moves.proofs.turn_blocks.Given as goal

abbrev pub invariant-loop-low : goal.invariant-loop-low
invariant-loop-low l = (l.low + l.high ≤ length l.initial.words) × (length l.words ≡ length l.initial.words) × (l.m ≤ length l.initial.words) × Turning (λ i. get_or (turned_words l.m l.initial.words) i 0) l.low l.high l.words

abbrev pub decreases-loop-low : goal.decreases-loop-low
decreases-loop-low l = l.low + l.high
