-- The first e words become the operation's of themselves and the other's. Loop: of those e the first k are, the others are as they were.
use lib.ListN.{get_or}
use Rattle.word.proofs.Sweep.{Swept}
use Rattle.pairs.specs.Pairs.{word_by}
use Rattle.setops.proofs.zip_words.Given as goal

abbrev pub invariant-loop-k : goal.invariant-loop-k
invariant-loop-k l = Swept l.initial.word-items (λ i. word_by l.op (get_or l.initial.word-items i 0) (get_or l.other i 0)) 0 l.k l.word-items
