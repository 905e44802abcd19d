-- The bits from `from` on, below `end`, become the value, as far as there are words: the first word by a mask, whole words, the last by a mask.
use Rattle.std.proofs.Common.{rules}
use Rattle.arch.proofs.Regions.{region_by}
use Rattle.arch.proofs.fill_region.Goals as goal

pub returns : goal.returns
returns c =
    region_by _ _ _ c.args.words.now
    (λ k. search rules) _ _ _ _ _ _
    c.places.ensures
    c.all.ensures c.places-2.ensures
    c.overlay.ensures
    c.fill_words.ensures c.overlay-2.ensures
