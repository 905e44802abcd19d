-- Each word goes `whole` up where there is room, and the lowest stay. Loop: the words from piece k on are moved, those below are as they were.
use mathlib.Core.Path.{refl}
use native.Mathlib.Omega.{arith}
use Prim.Native.Nat.{◌*◌, min}
use lib.ListN.{length}
use Rattle.moves.proofs.Pieces.{move_none, moved_to, moved_up-more, moved_up-all}
use Rattle.moves.proofs.Promises.{up_is}
use Rattle.moves.proofs.move_up.Goals as goal

pub loop-k-init : goal.loop-k-init
loop-k-init c = move_none _ _ _ _ (omega arith)

pub loop-k-preserved : goal.loop-k-preserved
loop-k-preserved c =
    moved_to
    (moved_up-more (min (c.loop-k.k * 1024) c.saturating_sub-n.result) c.args.whole c.min.result (length c.args.words.now) _ _ _ (omega arith) (omega arith)
    (moved_to c.loop-k.invariant refl refl (omega arith)) (moved_to c.move_piece.ensures (omega arith) (omega arith) refl))
    (omega arith) (omega arith) (omega arith)

pub returns : goal.returns
returns c = up_is _ _ _ (moved_up-all _ _ _ _ (moved_to c.loop-k.invariant refl refl (omega arith)) (omega arith))
