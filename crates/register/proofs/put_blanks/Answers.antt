-- Blanks are put; the answer is the place after them.
use Rattle.register.proofs.Lines.{blanks_put}
use Rattle.register.proofs.put_blanks.Goals as goal

pub returns : goal.returns
returns c = blanks_put _ _ _ c.requires _ (c.fill.ensures.after (λ y p. p))
