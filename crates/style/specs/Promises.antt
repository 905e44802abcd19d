-- What a style may be, typed from the paper. It is proved in proofs/Promises.
use Rattle.std.specs.Prelude.{ℕ, ◌≤◌, ◌≡◌, true, ◌↔◌}
use Rattle.style.specs.Styles.{allowed}
use Rattle.style.specs.declared.Style.{Style}

-- printable ASCII, no digit, comma or blank
pub record Joins (c : ℕ) : Type 0 where
  pub printable : (32 ≤ c) × (c ≤ 126)
  pub no_digit : 48 ≤ c → c ≤ 57 → ⊥
  pub no_comma : c ≡ 44 → ⊥
  pub no_blank : c ≡ 32 → ⊥

pub record Allowed (y : Style) : Type 0 where
  pub first : y.first ≤ 1_000
  pub joiner : Joins y.joiner
  pub shortest : (2 ≤ y.shortest) × (y.shortest ≤ 9)

-- `No` holds where the style is not allowed, `Rest` where it is
pub record GuardedStyle (y : Style) (No : Type 0) (Rest : Type 0) : Type 0 where
  pub stop : (Allowed y → ⊥) → No
  pub rest : Allowed y → Rest

-- exactly these are allowed
abbrev pub StylesMean : Type 0
StylesMean = (y : Style) → Allowed y ↔ (allowed y ≡ true)
