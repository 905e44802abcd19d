-- The bytes of a kind's payload.
use Prim.Native.Nat.{ℕ}
use mathlib.Core.Path.{◌≡◌, refl}
use mathlib.Core.Option.{Option, none, some}
use Rattle.word.proofs.Cases.{zero_one}
use Rattle.writer.specs.Kernels.{or_zero}
use Rattle.sheet.specs.Kinds.{known}
use Rattle.sheet.specs.Kinds.{Known}
use Rattle.std.specs.Prelude.{Some, None}

pub size-known : (o : Option ℕ) (k : Known) (n : ℕ) → k ≡ known o → k ≡ Some n → n ≡ or_zero o
size-known none k n p q = zero_one cc
size-known (some m) k n p q = cc

pub size_newer : (o : Option ℕ) (k : Known) → k ≡ known o → k ≡ None → 0 ≡ or_zero o
size_newer none k p q = refl
size_newer (some m) k p q = zero_one cc
