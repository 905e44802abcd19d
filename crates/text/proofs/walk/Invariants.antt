-- The text is measured, its good tokens' ranges are set. Outer loop: those before `at` are, `top` is their largest. Inner loop: `part` is the token as far as it is read.
use Rattle.text.specs.Kernels.{part_of}
use mathlib.Core.Path.{◌≡◌}
use mathlib.Core.Bool.{false}
use mathlib.Core.List.{List}
use Prim.Native.Nat.{◌-◌}
use lib.ListN.{length}
use Rattle.text.specs.Lists.{Range}
use Rattle.text.proofs.Tokens.{Inside, TokensTo}
use Rattle.text.proofs.walk.Given as goal

abbrev pub invariant-digits : goal.invariant-digits
invariant-digits l = Inside l.style l.text l.initial.at l.at (part_of l.part) × (l.more ≡ false)

abbrev pub decreases-digits : goal.decreases-digits
decreases-digits l = length l.text - l.at

abbrev pub invariant-tokens : goal.invariant-tokens
invariant-tokens l = (rs : List Range) × TokensTo l.style l.text l.initial.words l.words l.top l.any l.at rs

abbrev pub decreases-tokens : goal.decreases-tokens
decreases-tokens l = length l.text - l.at
