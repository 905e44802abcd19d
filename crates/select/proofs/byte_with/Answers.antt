-- The byte that the running counts pass n in, and the count before it.
use Rattle.std.proofs.Common.{arith}
use Rattle.select.proofs.Present.{room, rank_in, sums_made}
use Rattle.select.proofs.byte_with.Goals as goal

pub bytes_before-byte-requires : goal.bytes_before-byte-requires
bytes_before-byte-requires c =
    room _ _ (sums_made _ _ _ c.byte_counts.ensures c.wrapping_mul-cumulative.ensures) _ c.requires

pub overflow_mul-result : goal.overflow_mul-result
overflow_mul-result c =
    let k = rank_in _ _ (sums_made _ _ _ c.byte_counts.ensures c.wrapping_mul-cumulative.ensures) _ c.requires _ c.bytes_before-byte.ensures in
    omega (arith, k.within)

pub overflow_shr-result : goal.overflow_shr-result
overflow_shr-result c =
    let k = rank_in _ _ (sums_made _ _ _ c.byte_counts.ensures c.wrapping_mul-cumulative.ensures) _ c.requires _ c.bytes_before-byte.ensures in
    omega (arith, k.within)

pub returns : goal.returns
returns c =
    rank_in _ _ (sums_made _ _ _ c.byte_counts.ensures c.wrapping_mul-cumulative.ensures) _ c.requires _ c.bytes_before-byte.ensures
