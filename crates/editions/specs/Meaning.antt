-- What a change sheet means, in the terms of document 01, by its bytes and positions, with no reader. Record i here is the paper's record i + 1.
use Rattle.std.specs.Prelude.{ℕ, zero, suc, ◌+◌, ◌*◌, ◌≤◌, ◌<◌, ◌≡◌, true, false, List, [], ◌∷◌, ◌++◌, length, get_or, leb}
use Rattle.std.proofs.Math.Option.{none, some}
use Rattle.storage.specs.Refusals.{number_of}
use Rattle.storage.specs.declared.Refusal.{Refusal}
use Rattle.editions.specs.Frames.{Item}
use Rattle.editions.specs.Reader.{Edition, Turn, stop, next, Answer, refused, done}

-- the record r stands at a position of the sheet: its first byte is 128 * bit + kind with kind below 128, the bit is 1 for duty, the next two bytes are
-- the length of its payload, most significant first, and then come exactly so many bytes
pub record Stands (sheet : List ℕ) (at : ℕ) (r : Item) : Type 0 where
  pub bit : ℕ
  pub first : get_or sheet at 0 ≡ 128 * bit + r.kind
  pub seven : r.kind < 128
  pub duty : r.duty ≡ leb 1 bit
  pub size : get_or sheet (at + 1) 0 * 256 + get_or sheet (at + 2) 0 ≡ length r.payload
  pub inside : at + 3 + length r.payload ≤ length sheet
  pub bytes : (j : ℕ) → j < length r.payload → get_or r.payload j 0 ≡ get_or sheet (at + 3 + j) 0

module _ (sheet : List ℕ) where
  -- at least four bytes, the letters N and S first
  abbrev pub Header : Type 0
  Header = (4 ≤ length sheet) × (get_or sheet 0 0 ≡ 78) × (get_or sheet 1 0 ≡ 83)

  -- the record count R, 16 bits
  abbrev pub total : ℕ
  total = get_or sheet 2 0 * 256 + get_or sheet 3 0

  -- where the record at a position ends: three bytes of head, and as many as the last two of them say
  abbrev pub past : ℕ → ℕ
  past at = at + 3 + (get_or sheet (at + 1) 0 * 256 + get_or sheet (at + 2) 0)

  -- where record i starts
  unfoldable pub start : ℕ → ℕ
  start zero = 4
  start (suc i) = past (start i)

  -- its frame is whole: head and payload lie in the sheet
  abbrev pub Whole : ℕ → Type 0
  Whole i = past (start i) ≤ length sheet

  -- record i is r
  abbrev pub Is : ℕ → Item → Type 0
  Is i r = Stands sheet (start i) r

-- one step after another: a refusal stays
abbrev pub onward : {S : Type 0} → (S → Turn S) → Turn S → Turn S
onward f (stop e) = stop e
onward f (next s) = f s

module _ {A S : Type 0} (E : Edition A S) where
  -- a duty record asks for an edit: its kind is of the edition, its payload has the kind's length and is one that the rule lets pass
  pub record Asks (r : Item) (e : A) : Type 0 where
    pub duty : r.duty ≡ true
    pub sized : E.size r.kind ≡ some (length r.payload)
    pub ruled : E.rule r.kind r.payload ≡ some e

  -- the effect of edits in order, each with its record's number: their steps, each on what the last left
  unfoldable pub effect : List (ℕ × A) → S → Turn S
  effect [] s = next s
  effect ((k, e) ∷ es) s = onward (effect es) (E.step k e s)

  module _ (sheet : List ℕ) where
    -- the first i records are sound (none of 10, 13 and 12 applies), and these are the edits of the duty records among them, in order
    pub data Sound : ℕ → List (ℕ × A) → Type 0 where
      begin : Sound 0 []
      remark : {i : ℕ} {es : List (ℕ × A)} (r : Item) → Sound i es → Is sheet i r → r.duty ≡ false → Sound (suc i) es
      duty : {i : ℕ} {es : List (ℕ × A)} (r : Item) (e : A) → Sound i es → Is sheet i r → Asks r e → Sound (suc i) (es ++ (suc i, e) ∷ [])

    -- the header is good, the old state fits, and the first i records are sound and applied
    pub record Reached (old : Turn S) (i : ℕ) : Type 0 where
      pub headed : Header sheet
      pub from : S
      pub fits : old ≡ next from
      pub edits : List (ℕ × A)
      pub sound : Sound i edits
      pub state : S
      pub applied : effect edits from ≡ next state

    -- the paper's record k is reached, and this holds of it
    pub record AtRecord (old : Turn S) (k : ℕ) (P : S → ℕ → Type 0) : Type 0 where
      pub index : ℕ
      pub numbered : k ≡ suc index
      pub within : index < total sheet
      pub reached : Reached old index
      pub here : P reached.state index

    -- a duty record of whole frame, of a kind outside the edition
    abbrev pub Newer : S → ℕ → Type 0
    Newer s i = (r : Item) × Is sheet i r × (r.duty ≡ true) × (E.size r.kind ≡ none)

    -- a duty record of whole frame, of a kind of the edition, with a bad payload: it asks for no edit
    abbrev pub Bad : S → ℕ → Type 0
    Bad s i = (r : Item) × Is sheet i r × (r.duty ≡ true) × (n : ℕ) × (E.size r.kind ≡ some n) × ((e : A) → ¬ Asks r e)

    -- a sound duty record whose step is refused
    abbrev pub Fails : Refusal → S → ℕ → Type 0
    Fails why s i = (r : Item) × Is sheet i r × (e : A) × Asks r e × (E.step (suc i) e s ≡ stop why)

    -- the condition of each number x with its record k, in the order of 01; the old state and a step have their own numbers, 6 for a bitmap
    pub data Applies (old : Turn S) (x k : ℕ) : Type 0 where
      not-sheet : ¬ Header sheet → x ≡ 9 → k ≡ 0 → Applies old x k
      unfit : Header sheet → (why : Refusal) → old ≡ stop why → x ≡ number_of why → k ≡ 0 → Applies old x k
      cut : AtRecord old k (λ s i. ¬ Whole sheet i) → x ≡ 10 → Applies old x k
      newer : AtRecord old k Newer → x ≡ 13 → Applies old x k
      bad : AtRecord old k Bad → x ≡ 12 → Applies old x k
      fails : (why : Refusal) → AtRecord old k (Fails why) → x ≡ number_of why → Applies old x k
      remain : Reached old (total sheet) → start sheet (total sheet) < length sheet → x ≡ 11 → k ≡ total sheet → Applies old x k

    -- all records are sound and applied and no bytes are left: k is their number, s what their edits make of the old state
    pub record Accepted (old : Turn S) (k : ℕ) (s : S) : Type 0 where
      pub numbered : k ≡ total sheet
      pub reached : Reached old (total sheet)
      pub ends : start sheet (total sheet) ≡ length sheet
      pub makes : reached.state ≡ s

    -- where an answer is due
    abbrev pub Due : Turn S → Answer S → Type 0
    Due old (refused e k) = Applies old (number_of e) k
    Due old (done k s) = Accepted old k s

-- the later edition F has each kind of E, with its length, its payload rule and its meaning
pub record Holds {A S : Type 0} (E F : Edition A S) : Type 0 where
  pub size-kept : (k n : ℕ) → E.size k ≡ some n → F.size k ≡ some n
  pub rule_kept : (k n : ℕ) (p : List ℕ) → E.size k ≡ some n → length p ≡ n → F.rule k p ≡ E.rule k p
  pub step_kept : (k n : ℕ) (p : List ℕ) (e : A) → E.size k ≡ some n → length p ≡ n → E.rule k p ≡ some e → (i : ℕ) (s : S) → F.step i e s ≡ E.step i e s
