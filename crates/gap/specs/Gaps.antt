-- Places opened and closed in a bitmap, as 01 composes them ("The change sheet"): the tail is split off, moved, and joined to the head again.
use Rattle.std.specs.Prelude.{ℕ, ◌+◌}
use Rattle.storage.specs.Stores.{Op, and_then}
use Rattle.setops.specs.Setops.{uniting}
use Rattle.shapes.specs.Shapes.{raising, lowered, lowering, truncated}

-- `open` of k places at p: the tail shifted left by p + k, then `or`
unfoldable pub opening : ℕ → ℕ → Op
opening p k c b = and_then (raising (p + k) c (lowered p b)) (λ t. uniting t c (truncated p b))

-- `close` of k places at p: the tail shifted right by k, then left by p, then `or`
unfoldable pub closing : ℕ → ℕ → Op
closing p k c b = and_then (lowering k c (lowered p b)) (λ t. and_then (raising p c t) (λ u. uniting u c (truncated p b)))
