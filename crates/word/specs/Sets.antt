-- Sets of numbers, as tests: their members counted, the least from a place on, the greatest, and the member of a rank.
use Rattle.std.specs.Prelude.{◌≡◌, ℕ, zero, suc, ◌+◌, ◌<◌, ◌≤◌, Bool, true, false, not, ◌&&◌, ◌==◌}

-- a where the test holds, else b
abbrev pub choose : {A : Type 0} → Bool → A → A → A
choose true a b = a
choose false a b = b

-- one of two, and not both
abbrev pub xorb : Bool → Bool → Bool
xorb true b = not b
xorb false b = b

-- 1 for a member, 0 for any other number
abbrev pub val : Bool → ℕ
val true = 1
val false = 0

-- how many members are below m
unfoldable pub count_below : (ℕ → Bool) → ℕ → ℕ
count_below s zero = 0
count_below s (suc m) = val (s m) + count_below s m

-- the least member from i on, of the next d numbers; i + d if none of them is a member
unfoldable pub least_from : (ℕ → Bool) → ℕ → ℕ → ℕ
least_from s i zero = i
least_from s i (suc d) = let rest = least_from s (suc i) d in choose (s i) i rest

-- one more than the greatest member below m; 0 if there is none
unfoldable pub top_below : (ℕ → Bool) → ℕ → ℕ
top_below s zero = 0
top_below s (suc m) = let rest = top_below s m in choose (s m) (suc m) rest

-- the member below m that has exactly r members below it; `none` if there is no such member
unfoldable pub nth : (ℕ → Bool) → ℕ → ℕ → ℕ → ℕ
nth s r none zero = none
nth s r none (suc m) = let rest = nth s r none m in choose (s m && count_below s m == r) m rest

-- What these answer, without their recursion. Promised in specs/Promises.

-- p is the least member from i on, below e; or it is e, and no number from i on, below e, is a member
pub record Least (s : ℕ → Bool) (i e p : ℕ) : Type 0 where
  pub from : i ≤ p
  pub within : p ≤ e
  pub here : p < e → s p ≡ true
  pub under : (q : ℕ) → i ≤ q → q < p → s q ≡ false

-- t is one more than the greatest member below m; or it is 0, and no number below m is a member
pub record Top (s : ℕ → Bool) (m t : ℕ) : Type 0 where
  pub within : t ≤ m
  pub last : (k : ℕ) → suc k ≡ t → s k ≡ true
  pub over : (k : ℕ) → t ≤ k → k < m → s k ≡ false

-- how many members a set has, whatever counts them: none below 0, and each number adds itself where it is a member
pub record Counts (s : ℕ → Bool) (count : ℕ → ℕ) : Type 0 where
  pub none : count 0 ≡ 0
  pub member : (m : ℕ) → s m ≡ true → count (suc m) ≡ suc (count m)
  pub other : (m : ℕ) → s m ≡ false → count (suc m) ≡ count m

-- v members are below k: something counts them, and whatever does comes to v
pub record Counted (s : ℕ → Bool) (k v : ℕ) : Type 0 where
  pub some : (count : ℕ → ℕ) × Counts s count × (count k ≡ v)
  pub all : (count : ℕ → ℕ) → Counts s count → count k ≡ v
