-- The rows of a tally: the cases by the numbers below n that they should answer, all of them, and the mismatches.
use Rattle.std.specs.Prelude.{ℕ, ◌+◌, ◌-◌, ◌^◌, ◌≡◌, min, Bool, nat_lt, if◌then◌else◌, List, replicate, slice_set, slice_index_or}

-- one more, up to the type's end
abbrev pub counted : ℕ → ℕ
counted n = min (n + 1) (2 ^ 64 - 1)

-- a row of no case
pub record NoCase (n : ℕ) (ns : List ℕ) (cases wrong : ℕ) : Type 0 where
  pub numbers : ns ≡ replicate n 0
  pub all : cases ≡ 0
  pub mismatches : wrong ≡ 0

-- a row with one case more
pub record OneMore (n number : ℕ) (mismatch : Bool) (ns : List ℕ) (cases wrong : ℕ) (ns' : List ℕ) (cases' wrong' : ℕ) : Type 0 where
  pub numbers : ns' ≡ (if nat_lt number n then slice_set ns number (counted (slice_index_or ns number 0)) else ns)
  pub all : cases' ≡ counted cases
  pub mismatches : wrong' ≡ (if mismatch then counted wrong else wrong)
