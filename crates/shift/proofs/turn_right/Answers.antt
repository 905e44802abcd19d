-- Bit i goes to i - k mod the length: no change with no words, else whole words turn up by what is left of the length, then odd bits down.
use mathlib.Core.Path.{refl}
use native.Mathlib.Nat.{mod-lt}
use native.Mathlib.Omega.{arith}
use Rattle.shift.proofs.Turns.{no_words_lem, turn_right_is}
use Rattle.shift.proofs.turn_right.Goals as goal

pub returns-then-n-eq0 : goal.returns-then-n-eq0
returns-then-n-eq0 c = no_words_lem _ _ (omega arith)

pub returns : goal.returns
returns c =
    turn_right_is c.args.words.now
    c.turn_words.new.words c.turn_down.new.words
    (search arith) _ (mod-lt _ (omega arith))
    c.turn_words.ensures _ refl c.turn_down.ensures
