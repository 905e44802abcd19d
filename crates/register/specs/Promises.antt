-- What the printed register promises, in words of its own. Each is proved in proofs/Promises.
use Rattle.std.specs.Prelude.{ℕ, ◌+◌, ◌*◌, ◌/◌, ◌≤◌, ◌<◌, ◌≡◌, List, ◌↔◌, length}
use Rattle.storage.specs.Refusals.{answer_number, amount_value}
use Rattle.storage.specs.Stores.{Bits, Bounded, held}
use Rattle.storage.specs.Guards.{most_words}
use Rattle.storage.specs.Promises.{Guarded}
use Rattle.storage.specs.declared.Bitmap.{Bitmap}
use Rattle.scans.specs.Promises.{AllCounted}
use Rattle.text.specs.Lists.{Range}
use Rattle.print.specs.Forms.{Runs}
use Rattle.print.specs.Promises.{NotPrinted, PutOrShort}
use Rattle.register.specs.Register.{register_of, Registers}
use Rattle.register.specs.Pages.{Row, line_at, IsRegister, Entry, Taken, Say, Sums}
use Rattle.storage.specs.Refusals.{Amount}

-- of every bitmap that a store may hold: the register is of the form that 02 has, and no other text is
abbrev pub OneRegister : Type 0
OneRegister = (b : Bits) → Bounded b → b.count ≤ most_words → (t : List ℕ) → IsRegister b t ↔ (t ≡ register_of b)

-- what is read off the lines of so many pages is exactly the maximal runs, upward, each once, with their sizes; these sum to what each foot says, which is
-- the number of members
pub record TakenOff (b : Bits) (t : List ℕ) (pages : ℕ) : Type 0 where
  pub runs : (es : List Entry) → Taken t (50 * pages) es ↔ ((rs : List Range) × Runs b.members 0 rs × Say es rs)
  pub sum : (es : List Entry) (k p n m : ℕ) → Taken t (50 * pages) es → k < pages → Row (line_at t (50 * k + 49)) p n m → Sums es m × AllCounted b m

-- so of every register, of as many pages as its length says
abbrev pub ReadsOff : Type 0
ReadsOff = (b : Bits) → Bounded b → (t : List ℕ) (pages : ℕ) → IsRegister b t → length t ≡ 3650 * pages → TakenOff b t pages

-- one page, and one more for each 49 members, are enough
abbrev pub EnoughPages : Type 0
EnoughPages = (b : Bits) → Bounded b → (t : List ℕ) (m : ℕ) → IsRegister b t → AllCounted b m → length t ≤ 3650 * (m / 49 + 1)

-- the call, by its number x, the length v and the buffer's bytes out' afterwards: 1, then 2, then the register or 6
abbrev pub PrintsRegister : List ℕ → Bitmap → List ℕ → ℕ → ℕ → List ℕ → Type 0
PrintsRegister ws b out x v out' = Guarded ws b (NotPrinted out x v out') (PutOrShort (IsRegister (held ws b)) out x v out')

-- `write_register`, from its contract
abbrev pub WriteRegisterMeans : Type 0
WriteRegisterMeans =
    (ws : List ℕ) (b : Bitmap) (out : List ℕ) (r : Amount) (out' : List ℕ) → Registers ws b out r out'
    → PrintsRegister ws b out (answer_number r) (amount_value r) out'
