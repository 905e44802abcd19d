-- Bit i is what bit i + k was from p on, and stays below p: no change past the words, else the words from p's on shift, and its low bits are put back.
use native.Mathlib.Omega.{arith}
use Rattle.gap.proofs.Tails.{close_out, close_tail}
use Rattle.gap.proofs.close_words.Goals as goal

pub returns-then-a-words : goal.returns-then-a-words
returns-then-a-words c =
    close_out _ _ _ (search arith) c.if-a-words.true

pub returns : goal.returns
returns c =
    close_tail _ _ _ (search arith) _ _
    c.if-a-words.false c.low_mask-mask.ensures
    c.right_words.ensures
