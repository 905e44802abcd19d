-- The place of the n-th set bit, which x has: the table's entry for its byte, at its rank there.
use Rattle.std.proofs.Common.{ℕ, ◌+◌, ◌*◌, ap, ◌∙◌}
use Rattle.select.proofs.Present.{placed}
use Rattle.select.proofs.select_present.Goals as goal

pub returns : goal.returns
returns c = ap (λ (y : ℕ). 8 * c.byte_with-byte.result.0 + y) c.from.ensures ∙ placed _ _ _ _ _ c.requires c.byte_with-byte.ensures
