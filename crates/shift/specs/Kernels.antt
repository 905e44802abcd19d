-- What a private function of this crate asks of the kernel that it is given.
use Rattle.std.specs.Prelude.{ℕ, ◌*◌, ◌≡◌, Bool, List, length}
use Rattle.word.specs.Places.{member, words_of}
use Rattle.storage.specs.Stores.{Bits, done, Op}
use Rattle.shifts.specs.Shifts.{kept}

-- whatever the words, the kernel leaves those of the set that f makes of theirs within the length
abbrev pub LeavesWords : (List ℕ → List ℕ → Type 0) → (ℕ → (ℕ → Bool) → ℕ → Bool) → Type 0
LeavesWords kernel f = (ws ws' : List ℕ) → kernel ws ws' → ws' ≡ words_of (f (64 * length ws) (member ws)) (length ws)

-- the operation makes that set of a bitmap, and keeps its count
abbrev pub KeepsCount : Op → (ℕ → (ℕ → Bool) → ℕ → Bool) → Type 0
KeepsCount op f = (c : ℕ) (b : Bits) → op c b ≡ done (kept (f (64 * b.count) b.members) b)
