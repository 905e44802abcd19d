-- Each word goes `whole` down where there is room, and the highest stay. Loop: the words of k pieces are moved, the words above are as they were.
use mathlib.Core.Path.{refl}
use native.Mathlib.Omega.{arith}
use Rattle.moves.proofs.Pieces.{move_none, moved_to, moved_down-more, moved_down-all}
use Rattle.moves.proofs.Promises.{down_is}
use Rattle.moves.proofs.move_down.Goals as goal

pub loop-k-init : goal.loop-k-init
loop-k-init c = move_none _ _ _ _ (omega arith)

pub loop-k-preserved : goal.loop-k-preserved
loop-k-preserved c =
    moved_to (moved_down-more _ _ _ _ _ _ (moved_to c.loop-k.invariant refl refl (omega arith)) c.move_piece.ensures) refl refl (omega arith)

pub returns : goal.returns
returns c = down_is _ _ _ (moved_down-all _ _ _ _ c.loop-k.invariant (omega arith))
