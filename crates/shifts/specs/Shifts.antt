-- Shifts and rotations within the length, on sets (01: the `BitSlice` ones keep the word count and lose bits pushed out).
use Rattle.std.specs.Prelude.{ℕ, ◌+◌, ◌-◌, ◌*◌, ◌%◌, Bool, ◌&&◌, ltb, leb}
use Rattle.storage.specs.Stores.{Bits, done, Op}

-- a set moved k up, and moved k down
unfoldable pub moved_up : ℕ → (ℕ → Bool) → ℕ → Bool
moved_up k s i = leb k i && s (i - k)

unfoldable pub moved_down : ℕ → (ℕ → Bool) → ℕ → Bool
moved_down k s i = s (i + k)

-- a set below the length len, turned k up and turned k down: i goes to (i + k) mod len, and to (i - k) mod len
unfoldable pub turned_up : ℕ → ℕ → (ℕ → Bool) → ℕ → Bool
turned_up len k s i = s ((i + (len - k % len)) % len)

unfoldable pub turned_down : ℕ → ℕ → (ℕ → Bool) → ℕ → Bool
turned_down len k s i = s ((i + k) % len)

-- f of the set, below the length
abbrev pub kept : (ℕ → Bool) → Bits → Bits
kept f b = record { members = λ i. ltb i (64 * b.count) && f i; count = b.count }

unfoldable pub shifting_left : ℕ → Op
unfolding moved_up
shifting_left k c b = done (kept (moved_up k b.members) b)

unfoldable pub shifting_right : ℕ → Op
unfolding moved_down
shifting_right k c b = done (kept (moved_down k b.members) b)

unfoldable pub rotating_left : ℕ → Op
unfolding turned_up
rotating_left k c b = done (kept (turned_up (64 * b.count) k b.members) b)

unfoldable pub rotating_right : ℕ → Op
unfolding turned_down
rotating_right k c b = done (kept (turned_down (64 * b.count) k b.members) b)
