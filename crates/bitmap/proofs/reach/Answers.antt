-- The words up to those of all listed bits, the most so far in a fold.
use mathlib.Core.Path.{◌∙◌}
use Prim.Native.Nat.{ℕ, ◌+◌, ◌/◌, max}
use borrow.Author.Tests.{tests}
use Rattle.std.proofs.Common.{rules}
use Rattle.std.proofs.lemmas.Iterator.{YieldsList-from_slice}
use Rattle.std.proofs.lemmas.Iterator.Consumers.{fold_from_yields_List}
use Rattle.bitmap.proofs.Many.{reach_folded}
use Rattle.bitmap.proofs.reach.Goals as goal

pub returns : goal.returns
returns c =
    fold_from_yields_List _ (λ (most i : ℕ). max most (i / 64 + 1)) _ _ c.fold.ensures.ran (YieldsList-from_slice _ c.iter.ensures.rest)
    (λ a x b q k. search (rules, tests))
    ∙ reach_folded _
