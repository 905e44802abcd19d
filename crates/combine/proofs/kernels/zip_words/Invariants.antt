-- The first e words become the operation's of both slices. Loop: of those e the first k are, the others are as they were.
use lib.ListN.{get_or}
use Rattle.word.proofs.Sweep.{Swept}
use Rattle.pairs.specs.Pairs.{words_by}
use Rattle.combine.proofs.kernels.zip_words.Given as goal

abbrev pub invariant-loop-k : goal.invariant-loop-k
invariant-loop-k l = Swept l.initial.word-items (λ i. get_or (words_by l.op l.left l.right) i 0) 0 l.k l.word-items
