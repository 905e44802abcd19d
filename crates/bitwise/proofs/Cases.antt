-- The definitions by their cases.
use mathlib.Core.Path.{◌≡◌}
use Prim.Native.Nat.{ℕ, ◌*◌, ◌≤◌}
use borrow.Author.Tests.{le-ltb}
use Rattle.storage.specs.Stores.{Bits, refused}
use Rattle.storage.specs.declared.Refusal.TheVariants.{PastLength}
use Rattle.bitwise.specs.Bitwise.{toggling_inside}

pub toggling-past : (i c : ℕ) (s : Bits) → 64 * s.count ≤ i → toggling_inside i c s ≡ refused PastLength
unfolding toggling_inside
toggling-past i c s h = rw (le-ltb i (64 * s.count) h)
