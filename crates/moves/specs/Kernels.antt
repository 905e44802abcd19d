-- What the private functions of this crate make of a list.
use Rattle.std.specs.Prelude.{ℕ, ◌+◌, ◌≤◌, ◌<◌, ◌≡◌, List, length, get_or}

-- the m words from index a on stand from index b on, the others are as they were
pub record Moved (a b m : ℕ) (old new : List ℕ) : Type 0 where
  pub long : length new ≡ length old
  pub moved : (i : ℕ) → i < m → get_or new (b + i) 0 ≡ get_or old (a + i) 0
  pub below : (i : ℕ) → i < b → get_or new i 0 ≡ get_or old i 0
  pub above : (i : ℕ) → b + m ≤ i → get_or new i 0 ≡ get_or old i 0

-- the m words from index a on and the m from index b on have changed places
pub record Swapped (a b m : ℕ) (old new : List ℕ) : Type 0 where
  pub long : length new ≡ length old
  pub first : (i : ℕ) → i < m → get_or new (a + i) 0 ≡ get_or old (b + i) 0
  pub second : (i : ℕ) → i < m → get_or new (b + i) 0 ≡ get_or old (a + i) 0
  pub below : (i : ℕ) → i < a → get_or new i 0 ≡ get_or old i 0
  pub between : (i : ℕ) → a + m ≤ i → i < b → get_or new i 0 ≡ get_or old i 0
  pub above : (i : ℕ) → b + m ≤ i → get_or new i 0 ≡ get_or old i 0
