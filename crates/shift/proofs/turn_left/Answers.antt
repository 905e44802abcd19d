-- Bit i goes to i + k mod the length: no change with no words, else whole words turn, and then the odd bits.
use mathlib.Core.Path.{refl}
use native.Mathlib.Nat.{mod-lt}
use native.Mathlib.Omega.{arith}
use Rattle.shift.proofs.Turns.{no_words_lem, turn_left_is}
use Rattle.shift.proofs.turn_left.Goals as goal

pub returns-then-n-eq0 : goal.returns-then-n-eq0
returns-then-n-eq0 c = no_words_lem _ _ (omega arith)

pub returns : goal.returns
returns c =
    turn_left_is c.args.words.now
    c.turn_words.new.words c.turn_up.new.words
    (search arith) _ (mod-lt _ (omega arith))
    c.turn_words.ensures _ refl c.turn_up.ensures
