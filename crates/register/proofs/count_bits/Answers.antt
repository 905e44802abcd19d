-- How many set bits there are, as `count_set_bits` says of a store that passes.
use Rattle.register.proofs.Next.{counted_is}
use Rattle.register.proofs.count_bits.Goals as goal

pub returns : goal.returns
returns c = counted_is _ _ c.args.held.now.passes _ c.count_set_bits.ensures _ c.unwrap_or.ensures
