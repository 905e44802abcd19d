-- What `open` and `close` promise, for every number. Each is proved in proofs/Promises, of a bitmap with no member past its words,
-- `CallsExact` in proofs/Once.
use Rattle.std.specs.Prelude.{ℕ, ◌+◌, ◌*◌, ◌^◌, ◌≤◌, ◌<◌, ◌≡◌, true, false, ◌⊎◌}
use Rattle.storage.specs.Stores.{Bits, Bounded, Space}
use Rattle.storage.specs.Guards.{most_words}
use Rattle.storage.specs.Promises.{Meets, MeetsExactly}
use Rattle.gap.specs.Gaps.{opening, closing}

-- the words in use hold every member, and no fewer words do
pub record Trimmed (s : Bits) : Type 0 where
  pub holds : (i : ℕ) → s.members i ≡ true → i < 64 * s.count
  pub least : (n : ℕ) → ((i : ℕ) → s.members i ≡ true → i < 64 * n) → s.count ≤ n

-- numbers below p stay, those from p on go k up, and the k places at p are empty; no member passes 2 ^ 64 - 1
pub record Opens (p k : ℕ) (b s : Bits) : Type 0 where
  pub below : (i : ℕ) → i < p → s.members i ≡ b.members i
  pub empty : (i : ℕ) → p ≤ i → i < p + k → s.members i ≡ false
  pub moved : (i : ℕ) → p ≤ i → s.members (i + k) ≡ b.members i
  pub last : (i : ℕ) → p ≤ i → b.members i ≡ true → i + k < 2 ^ 64
  pub count : Trimmed s

-- 4 where a member from p on passes 2 ^ 64 - 1; 6 where none does, and a member has no word where it stays or goes
abbrev pub NotOpened : ℕ → ℕ → Space → Bits → ℕ → Type 0
NotOpened p k c b m =
    ((m ≡ 4) × (i : ℕ) × (p ≤ i) × (b.members i ≡ true) × (2 ^ 64 ≤ i + k))
    ⊎ ((m ≡ 6) × ((i : ℕ) → p ≤ i → b.members i ≡ true → i + k < 2 ^ 64)
    × (i : ℕ) × (b.members i ≡ true) × (((i < p) × (64 * c ≤ i)) ⊎ ((p ≤ i) × (64 * c ≤ i + k))))

-- `open_gap`
abbrev pub OpenMeans : Type 0
OpenMeans = (p k : ℕ) → Meets (opening p k) (λ c b s. Bounded b → Opens p k b s) (λ c b m. Bounded b → NotOpened p k c b m)

-- numbers below p stay, those from p on, below p + k, go, and those behind them go k down
pub record Closes (p k : ℕ) (b s : Bits) : Type 0 where
  pub below : (i : ℕ) → i < p → s.members i ≡ b.members i
  pub moved : (i : ℕ) → p ≤ i → s.members i ≡ b.members (i + k)
  pub count : Trimmed s

-- only a bitmap that no store has is refused
abbrev pub NotClosed : Space → Bits → ℕ → Type 0
NotClosed c b m = b.count ≤ c → b.count ≤ most_words → ⊥

-- `close_gap`
abbrev pub CloseMeans : Type 0
CloseMeans = (p k : ℕ) → Meets (closing p k) (λ c b s. Bounded b → Closes p k b s) (λ c b m. Bounded b → NotClosed c b m)

-- and each is exact: done where there is a result as said, with space, and refused with a number where its condition holds
pub record CallsExact : Type 0 where
  pub open_gap : (p k : ℕ) → MeetsExactly (opening p k) (λ c b s. Bounded b → Opens p k b s) (λ c b m. Bounded b → NotOpened p k c b m)
  pub close_gap : (p k : ℕ) → MeetsExactly (closing p k) (λ c b s. Bounded b → Closes p k b s) (λ c b m. Bounded b → NotClosed c b m)
