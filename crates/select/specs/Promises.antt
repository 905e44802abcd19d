-- What the definitions promise, in words of their own. Each is proved in proofs/Promises.
use Rattle.std.specs.Prelude.{ℕ, ◌*◌, ◌+◌, ◌-◌, ◌^◌, ◌≤◌, ◌<◌, ◌≡◌, true, List, length, get_or}
use Rattle.word.specs.Sets.{nth, Counts}
use Rattle.word.specs.Places.{bit}
use Rattle.select.specs.Select.{select_table, select_by}

-- by any counting, p is the member of x below w with exactly r members below it, and `out` only where there is none
pub record SelectsRank (w out x r p : ℕ) (count : ℕ → ℕ) : Type 0 where
  pub one : r < count w → (p < w) × (bit x p ≡ true) × (count p ≡ r)
  pub none : count w ≤ r → p ≡ out

-- `select_u64`: 64 if there is none
abbrev pub SelectWordMeans : Type 0
SelectWordMeans = (x r : ℕ) (count : ℕ → ℕ) → Counts (bit x) count → SelectsRank 64 64 x r (nth (bit x) r 64 64) count

-- 01: "the place of the rank-th one in a byte, 0 if none", at each of the 2,048 entries
pub record TableRule : Type 0 where
  pub size : length select_table ≡ 2048
  pub entry : (byte rank : ℕ) → byte < 256 → rank < 8 → (count : ℕ → ℕ) → Counts (bit byte) count
      → SelectsRank 8 0 byte rank (get_or select_table (byte * 8 + rank) 0) count

-- `select_u64_portable`, by whatever table: the entry of the byte y that holds the member of the rank, at the rank among that byte's members
pub record SelectsBy (table : List ℕ) (x r p : ℕ) (count : ℕ → ℕ) : Type 0 where
  pub one : (b y : ℕ) → b < 8 → count (8 * b) ≤ r → r < count (8 * b + 8) → y < 2 ^ 8 → ((j : ℕ) → j < 8 → bit y j ≡ bit x (8 * b + j))
      → p ≡ 8 * b + get_or table (y * 8 + (r - count (8 * b))) 0
  pub none : count 64 ≤ r → p ≡ 64

abbrev pub SelectByMeans : Type 0
SelectByMeans = (table : List ℕ) (x r : ℕ) (count : ℕ → ℕ) → Counts (bit x) count → SelectsBy table x r (select_by table x r) count

-- by the rule's table
abbrev pub SelectPortableMeans : Type 0
SelectPortableMeans = (x r : ℕ) (count : ℕ → ℕ) → Counts (bit x) count → SelectsRank 64 64 x r (select_by select_table x r) count
