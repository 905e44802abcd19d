-- What the walks promise, from their contract. It is proved in proofs/Promises.
use Rattle.std.specs.Prelude.{ℕ, ◌≡◌, Bool, List}
use Rattle.pairs.specs.declared.SetOp.{SetOp}
use Rattle.storage.specs.Refusals.{answer_number, found_flag, found_value}
use Rattle.storage.specs.Stores.{held}
use Rattle.storage.specs.Promises.{GuardedBoth, FindsNone, MadeOf, NextMember}
use Rattle.storage.specs.declared.Bitmap.{Bitmap}
use Rattle.walk.specs.Walks.{walk_of}
use Rattle.storage.specs.Refusals.{Found}

-- demands 1 and 2: 1 and 2 of the first store, then of the second, then the least number from i on that is in the set s of what comes in
abbrev pub WalkMeans : Type 0
WalkMeans =
    (op : SetOp) (ws : List ℕ) (b : Bitmap) (os : List ℕ) (o : Bitmap) (i : ℕ) (r : Found) → r ≡ walk_of op ws b os o i
    → (s : ℕ → Bool) → MadeOf op (held ws b) (held os o) s
    → let x = answer_number r in
    let t = found_flag r in
    let v = found_value r in
    GuardedBoth ws b os o (FindsNone x t v) (NextMember s i x t v)
