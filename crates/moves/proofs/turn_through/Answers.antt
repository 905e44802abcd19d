-- The last m words go before the others: they are held where they are no more than the rest, else the rest is held.
use native.Mathlib.Omega.{arith}
use lib.Seq.{length-take-le}
use Rattle.moves.proofs.Promises.{gone_up, gone_down}
use Rattle.moves.proofs.Swaps.{held_part, last_long, turned_up_lem, turned_down_lem}
use Rattle.moves.proofs.turn_through.Goals as goal

pub returns-then-m-rest : goal.returns-then-m-rest
returns-then-m-rest c =
    turned_up_lem _ _ _ _ (omega arith)
    (held_part _ _ _ _ _ (last_long c.args.words.now c.args.m (omega arith))
    c.copy_words.ensures c.copy_words-then-m-rest.ensures)
    (gone_up _ _ _ c.move_up.ensures)

pub returns-else-m-rest : goal.returns-else-m-rest
returns-else-m-rest c =
    turned_down_lem _ _ _ _ (omega arith)
    (held_part _ _ _ _ _ (length-take-le _ _ (omega arith))
    c.copy_words-else-m-rest.ensures c.copy_words-else-m-rest-2.ensures)
    (gone_down _ _ _ c.move_down.ensures)
