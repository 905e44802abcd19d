-- The words from the old count on, below the new one, become 0, as far as the store has them; the others stay.
use Rattle.storage.specs.Stores.{zeroed}
use Rattle.storage.proofs.zero_words.Goals as goal

pub returns : goal.returns
unfolding zeroed
returns c = c.fill_words.ensures
