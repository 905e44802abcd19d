-- Bits from p on go k up and those below stay: no change past the words, else the words from p's on shift without its low bits, which are put back.
use native.Mathlib.Omega.{arith}
use Rattle.gap.proofs.Tails.{open_out, open_tail}
use Rattle.gap.proofs.open_words.Goals as goal

pub returns-then-a-words : goal.returns-then-a-words
returns-then-a-words c =
    open_out _ _ _ (search arith) c.if-a-words.true

pub returns : goal.returns
returns c =
    open_tail _ _ _ (search arith) _ _
    c.if-a-words.false c.low_mask-mask.ensures
    c.left_words.ensures
