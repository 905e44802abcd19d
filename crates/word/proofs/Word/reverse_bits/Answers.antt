-- Place i is what was place 63 - i: the six swaps, of groups of 1, 2, 4, 8, 16 and 32 bits, turn the word round.
use Rattle.std.proofs.Common.{arith}
use Rattle.word.proofs.Reverse.{reversed}
use Rattle.word.proofs.Word.reverse_bits.Goals as goal

pub returns : goal.returns
returns c =
    reversed _ _ _ _ _ _ _ (omega arith)
    c.swapped-a.ensures c.swapped-b.ensures
    c.swapped-c.ensures c.swapped-d.ensures c.swapped-e.ensures c.swapped.ensures
