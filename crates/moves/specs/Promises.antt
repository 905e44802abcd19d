-- What the three moves promise, word by word and for every amount. Each is proved in proofs/Promises.
use Rattle.std.specs.Prelude.{ℕ, ◌+◌, ◌≤◌, ◌<◌, ◌≡◌, List, length, get_or}
use Rattle.moves.specs.Moves.{up_words, down_words, turned_words}

-- word i goes to i + whole where that is below the length, and the words below `whole` stay
pub record GoesUp (whole : ℕ) (old new : List ℕ) : Type 0 where
  pub long : length new ≡ length old
  pub goes : (i : ℕ) → i + whole < length old → get_or new (i + whole) 0 ≡ get_or old i 0
  pub stays : (i : ℕ) → i < whole → get_or new i 0 ≡ get_or old i 0

-- `move_up`
abbrev pub MoveUpMeans : Type 0
MoveUpMeans = (whole : ℕ) (ws : List ℕ) → GoesUp whole ws (up_words whole ws)

-- and no other list goes so
abbrev pub UpAlone : Type 0
UpAlone = (whole : ℕ) (old new : List ℕ) → GoesUp whole old new → new ≡ up_words whole old

-- word i + whole goes to i, and the words that none comes down to stay
pub record GoesDown (whole : ℕ) (old new : List ℕ) : Type 0 where
  pub long : length new ≡ length old
  pub goes : (i : ℕ) → i + whole < length old → get_or new i 0 ≡ get_or old (i + whole) 0
  pub stays : (i : ℕ) → length old ≤ i + whole → get_or new i 0 ≡ get_or old i 0

-- `move_down`
abbrev pub MoveDownMeans : Type 0
MoveDownMeans = (whole : ℕ) (ws : List ℕ) → GoesDown whole ws (down_words whole ws)

abbrev pub DownAlone : Type 0
DownAlone = (whole : ℕ) (old new : List ℕ) → GoesDown whole old new → new ≡ down_words whole old

-- word i goes to i + m, or to j where that is j past the end; by the length and by more nothing changes
pub record Turned (m : ℕ) (old new : List ℕ) : Type 0 where
  pub long : length new ≡ length old
  pub goes : (i : ℕ) → i + m < length old → get_or new (i + m) 0 ≡ get_or old i 0
  pub wraps : (i j : ℕ) → m ≤ length old → i < length old → i + m ≡ length old + j → get_or new j 0 ≡ get_or old i 0
  pub stays : length old ≤ m → new ≡ old

-- `turn_words`
abbrev pub TurnWordsMeans : Type 0
TurnWordsMeans = (m : ℕ) (ws : List ℕ) → Turned m ws (turned_words m ws)
