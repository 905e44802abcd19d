-- Whether every byte is below 128, as std looks for one that is not.
use Rattle.text.proofs.Steps.{plain_by}
use Rattle.text.proofs.bytes.is_plain.Goals as goal

pub returns : goal.returns
returns c = plain_by _ _ c.is_ascii.ensures.cases
