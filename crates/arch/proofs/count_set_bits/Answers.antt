-- The set bits of all words are counted, mod 2^64.
use Rattle.std.proofs.Common.{ℕ, ◌+◌, ◌%◌, ◌^◌, ◌∙◌, rules}
use borrow.Author.Tests.{tests}
use Rattle.std.proofs.lemmas.Iterator.{YieldsList-from_slice}
use Rattle.std.proofs.lemmas.Iterator.Consumers.{fold_from_yields_List}
use Rattle.word.specs.Sets.{count_below}
use Rattle.word.specs.Places.{bit}
use Rattle.arch.proofs.Counts.{count_all}
use Rattle.arch.proofs.count_set_bits.Goals as goal

pub returns : goal.returns
returns c =
    fold_from_yields_List _ (λ (n x : ℕ). (n + count_below (bit x) 64) % 2 ^ 64) _ _ c.fold.ensures.ran (YieldsList-from_slice _ c.iter.ensures.rest)
    (λ a x b q k. search (rules, tests))
    ∙ count_all _
