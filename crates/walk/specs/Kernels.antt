-- What the private functions of this crate answer, of a list of words.
use Rattle.std.specs.Prelude.{ℕ, ◌*◌, ◌≤◌, ◌<◌, ◌≡◌, false, List, Option, None, Ok}
use Rattle.word.specs.Places.{member}
use Rattle.storage.specs.Stores.{next_from}
use Rattle.storage.specs.Kernels.{all_words}

-- word k is past i, and no number from i on, below that word, is a member
pub record Clear (ws : List ℕ) (i k : ℕ) : Type 0 where
  pub far : i ≤ 64 * k
  pub none : (q : ℕ) → i ≤ q → q < 64 * k → member ws q ≡ false

-- the least member from i on, or nothing where none is below word k
pub record NextBelow (ws : List ℕ) (i k : ℕ) (r : Option ℕ) : Type 0 where
  pub found : (r ≡ None → ⊥) → Ok r ≡ next_from (all_words ws) i
  pub nothing : r ≡ None → Clear ws i k

-- the least member from i on, whatever i is, if none is below word k
abbrev pub NextBeyond : List ℕ → ℕ → Option ℕ → Type 0
NextBeyond ws k r = (i : ℕ) → Clear ws i k → Ok r ≡ next_from (all_words ws) i
