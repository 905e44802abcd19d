-- The places of word k that lie from `from` on, below `end`: the low mask up to `end` without the one up to `from`.
use Rattle.std.proofs.Common.{ap, ◌∙◌}
use Rattle.word.specs.Words.{low_mask}
use Rattle.arch.proofs.Regions.{places_is}
use Rattle.arch.proofs.places.Goals as goal

pub returns : goal.returns
returns c =
    places_is _ _ _ _ _
    (c.low_mask-below.ensures ∙ ap (low_mask 64) c.saturating_sub.ensures)
    (c.low_mask.ensures ∙ ap (low_mask 64) c.saturating_sub-2.ensures)
