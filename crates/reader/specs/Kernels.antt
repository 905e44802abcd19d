-- What serves contracts of the reader's private functions.
use Rattle.std.specs.Prelude.{ℕ, ◌≤◌, ◌≡◌, true, List, length, get_or}
use Rattle.storage.specs.Stores.{Bits, Outcome, refused, Space, written}
use Rattle.storage.specs.Guards.{Passed}
use Rattle.storage.specs.declared.Bitmap.{Bitmap}
use Rattle.editions.specs.Frames.{Item}
use Rattle.editions.specs.Reader.{Turn, stop, next, Answer, act}
use Rattle.sheet.specs.Reads.{edition_of, went, read_answer}
use Rattle.sheet.specs.Reads.{Reading}

-- a store and its record that pass 1 and 2, every word past the count zero
pub record Padded (ws : List ℕ) (b : Bitmap) : Type 0 where
  pub passes : Passed ws b
  pub zeros : (k : ℕ) → b.count ≤ k → get_or ws k 0 ≡ 0

-- what a record comes to, as an operation does
abbrev pub outcome_of : Turn Bits → Outcome
outcome_of (stop e) = refused e
outcome_of (next s) = Outcome.done s

-- a duty record
abbrev pub duty_item : ℕ → List ℕ → Item
duty_item kind payload = record { duty = true; kind = kind; payload = payload }

-- a record in an edition, on a bitmap in the space c; the table's steps go by the edit alone, so any number of a record serves
unfoldable pub turned : ℕ → Item → Space → Bits → Outcome
unfolding act edition_of
turned edition item c b = outcome_of (act (edition_of c edition) 0 item b)

-- a reading that came to a answers r, and where it is done leaves the bitmap's words and zeros past its count
pub record Came (a : Answer Bits) (res : List ℕ) (r : Reading) (res' : List ℕ) : Type 0 where
  pub long : length res' ≡ length res
  pub answers : r ≡ read_answer (went a)
  pub leaves : (k : ℕ) (s : Bits) → a ≡ Answer.done k s → res' ≡ written res (length res) s
