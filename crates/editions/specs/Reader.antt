-- The reader of a change sheet, for any edition. A is the type of edits, S that of what an edit changes.
use Prim.Native.Nat.{ℕ, zero, suc}
use Rattle.std.specs.Prelude.{List, length, leb, ltb, eqb}
use Rattle.std.proofs.Math.Option.{Option, none, some}
use Rattle.word.specs.Sets.{choose}
use Rattle.storage.specs.declared.Refusal.{Refusal}
use Rattle.storage.specs.declared.Refusal.TheVariants.{NotSheet, CutRecord, BytesRemain, BadPayload, NewerKind}
use Rattle.editions.specs.Frames.{Item, headed, count_in, end_at, item_at}

-- a refusal, or what comes next
pub data Turn (S : Type 0) : Type 0 where
  stop : Refusal → Turn S
  next : S → Turn S

-- an edition: the payload's bytes of each kind that it has, what a payload of that length asks for (none: a bad payload),
-- and what the edit of record k makes of a state
pub record Edition (A S : Type 0) : Type 0 where
  pub size : ℕ → Option ℕ
  pub rule : ℕ → List ℕ → Option A
  pub step : (k : ℕ) → A → S → Turn S

-- 12 where a payload is no edit
abbrev pub ruled : {A : Type 0} → Option A → Turn A
ruled none = stop BadPayload
ruled (some e) = next e

-- 13 where there are no bytes of the kind, 12 where the payload has not so many
abbrev pub asking_by : {A : Type 0} → (ℕ → List ℕ → Option A) → ℕ → List ℕ → Option ℕ → Turn A
asking_by rule kind payload none = stop NewerKind
asking_by rule kind payload (some n) = ruled (choose (eqb (length payload) n) (rule kind payload) none)

-- what a duty record asks for, by the sizes and the rule of an edition: 13, 12 or an edit
abbrev pub asking : {A : Type 0} → (ℕ → Option ℕ) → (ℕ → List ℕ → Option A) → ℕ → List ℕ → Turn A
asking size rule kind payload = asking_by rule kind payload (size kind)

-- refused at a record, or done with so many records and this state
pub data Answer (S : Type 0) : Type 0 where
  refused : Refusal → ℕ → Answer S
  done : ℕ → S → Answer S

module _ {A S : Type 0} (E : Edition A S) where
  -- the step of record k, where it asks for an edit
  abbrev pub taken : ℕ → S → Turn A → Turn S
  taken k s (stop e) = stop e
  taken k s (next e) = E.step k e s

  -- record k, its frame whole: a remark does nothing; a duty record gets 13, 12 or its step's refusal, or makes the next state
  unfoldable pub act : ℕ → Item → S → Turn S
  act k r s = choose r.duty (taken k s (asking E.size E.rule r.kind r.payload)) (next s)

  -- a stopped reading names record i, another goes on
  abbrev pub then : (S → Answer S) → ℕ → Turn S → Answer S
  then k i (stop e) = refused e i
  then k i (next s) = k s

  -- n records more from a position on, after i records
  unfoldable pub records : List ℕ → ℕ → ℕ → ℕ → S → Answer S
  unfolding act
  records sheet zero i at s = choose (ltb at (length sheet)) (refused BytesRemain i) (done i s)
  records sheet (suc n) i at s =
      choose (leb (end_at sheet at) (length sheet))
      (then (records sheet n (suc i) (end_at sheet at)) (suc i) (act (suc i) (item_at sheet at) s))
      (refused CutRecord (suc i))

  -- at record 0, where the old state does not fit
  abbrev pub copied : List ℕ → Turn S → Answer S
  copied sheet (stop e) = refused e 0
  copied sheet (next s) = records sheet (count_in sheet) 0 4 s

  -- the whole sheet, from the old state or why it does not fit
  unfoldable pub read : List ℕ → Turn S → Answer S
  unfolding records
  read sheet old = choose (headed sheet) (copied sheet old) (refused NotSheet 0)
