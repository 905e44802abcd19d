-- What the calls promise, from their contracts. Each is proved in proofs/Promises, `CallsExact` in proofs/Once.
use Rattle.std.specs.Prelude.{ℕ, ◌^◌, ◌<◌, max, ◌≡◌, List, get_or}
use Rattle.pairs.specs.declared.SetOp.{SetOp}
use Rattle.storage.specs.Refusals.{change_number, change_record}
use Rattle.storage.specs.Promises.{Guarded, GuardedBoth, Combines, Unites, Meets, Lacks, LacksResult, Kept, EndsAs, MeetsExactly}
use Rattle.storage.specs.Stores.{Bits, Bounded, Space, Op, no_words, held, Changes, Makes}
use Rattle.storage.specs.declared.Bitmap.{Bitmap}
use Rattle.combine.specs.Combine.{combining_from, uniting_from, beside_both}
use Rattle.storage.specs.Refusals.{Change}

-- what the store held makes no difference
abbrev pub Discards : Op → Type 0
Discards op = (c : Space) (b b' : Bits) → op c b ≡ op c b'

-- of any two bitmaps, the numbers that come in, in the fewest words, and 6 exactly where those have no space
abbrev pub CombinesFrom : Type 0
CombinesFrom =
    (op : SetOp) (x y : Bits) → Bounded x → Bounded y
    → Meets (combining_from op x y) (λ c b s. Combines op y x s) (LacksResult (λ b s. Combines op y x s))

abbrev pub CombiningDiscards : Type 0
CombiningDiscards = (op : SetOp) (x y : Bits) → Discards (combining_from op x y)

-- the members of either, and 6 exactly where the longer has no space
abbrev pub UnitesFrom : Type 0
UnitesFrom = (x y : Bits) → Bounded x → Bounded y → Meets (uniting_from x y) (λ c b s. Unites y x s) (Lacks (λ b. max x.count y.count))

abbrev pub UnitingDiscards : Type 0
UnitingDiscards = (x y : Bits) → Discards (uniting_from x y)

-- and both are exact: done where there is a result as said, with space, and refused with 6 where there is none
pub record CallsExact : Type 0 where
  pub combine : (op : SetOp) (x y : Bits) → Bounded x → Bounded y
      → MeetsExactly (combining_from op x y) (λ c b s. Combines op y x s) (LacksResult (λ b s. Combines op y x s))
  pub unite : (x y : Bits) → Bounded x → Bounded y
      → MeetsExactly (uniting_from x y) (λ c b s. Unites y x s) (Lacks (λ b. max x.count y.count))

-- 1 and 2 of the store that is written, then of the left one, then of the right one; then the rule and the conditions
abbrev pub EndsBoth : (Space → Bits → Bits → Type 0) → (Space → Bits → ℕ → Type 0) → List ℕ → Bitmap → List ℕ → Bitmap → List ℕ → Bitmap → Change → List ℕ → Type 0
EndsBoth rule why xs x ys y ws b r ws' =
    let k = change_number r in
    let m = (change_record r).count in
    Guarded ws b (Kept b.count ws k m ws')
    (GuardedBoth xs x ys y (Kept b.count ws k m ws') (EndsAs rule why (held ws b) ws k m ws'))

-- demands 1 and 2 of a call of any operation of two bitmaps
abbrev pub BothMeans : Type 1
BothMeans =
    (op : Bits → Bits → Op) (rule : Bits → Bits → Space → Bits → Bits → Type 0) (why : Bits → Bits → Space → Bits → ℕ → Type 0)
    → ((x y : Bits) → Bounded x → Bounded y → Meets (op x y) (rule x y) (why x y))
    → (xs : List ℕ) (x : Bitmap) (ys : List ℕ) (y : Bitmap) (ws : List ℕ) (b : Bitmap) (r : Change) (ws' : List ℕ) → Changes (beside_both xs x ys y op) ws b r ws'
    → EndsBoth (rule (held xs x) (held ys y)) (why (held xs x) (held ys y)) xs x ys y ws b r ws'

-- and where the operation is exact, that leaves one number, one count and one content of the store
abbrev pub DeterminesBoth : Type 1
DeterminesBoth =
    (op : Bits → Bits → Op) (rule : Bits → Bits → Space → Bits → Bits → Type 0) (why : Bits → Bits → Space → Bits → ℕ → Type 0)
    → ((x y : Bits) → Bounded x → Bounded y → MeetsExactly (op x y) (rule x y) (why x y))
    → (xs : List ℕ) (x : Bitmap) (ys : List ℕ) (y : Bitmap) (ws us vs : List ℕ) (b : Bitmap) (r s : Change)
    → ((i : ℕ) → get_or us i 0 < 2 ^ 64) → ((i : ℕ) → get_or vs i 0 < 2 ^ 64)
    → let rule' = rule (held xs x) (held ys y) in
    let why' = why (held xs x) (held ys y) in
    EndsBoth rule' why' xs x ys y ws b r us → EndsBoth rule' why' xs x ys y ws b s vs
    → (change_number r ≡ change_number s) × ((change_record r).count ≡ (change_record s).count) × (us ≡ vs)

-- `and_from`, `andnot_from`, `xor_from`
abbrev pub CombineFromMeans : Type 0
CombineFromMeans =
    (op : SetOp) (xs : List ℕ) (x : Bitmap) (ys : List ℕ) (y : Bitmap) (ws : List ℕ) (b : Bitmap) (r : Change) (ws' : List ℕ) → Changes (beside_both xs x ys y (combining_from op)) ws b r ws'
    → EndsBoth (λ c b s. Combines op (held ys y) (held xs x) s) (LacksResult (λ b s. Combines op (held ys y) (held xs x) s)) xs x ys y ws b r ws'

-- `or_from`
abbrev pub UniteFromMeans : Type 0
UniteFromMeans =
    (xs : List ℕ) (x : Bitmap) (ys : List ℕ) (y : Bitmap) (ws : List ℕ) (b : Bitmap) (r : Change) (ws' : List ℕ) → Changes (beside_both xs x ys y uniting_from) ws b r ws'
    → EndsBoth (λ c o s. Unites (held ys y) (held xs x) s) (Lacks (λ o. max x.count y.count)) xs x ys y ws b r ws'

-- The dup forms have no earlier count: 0 stands for it, no word was in use, and a refusal returns 0.

-- `dup_and`, `dup_andnot`, `dup_xor`
abbrev pub DupCombineMeans : Type 0
DupCombineMeans =
    (op : SetOp) (xs : List ℕ) (x : Bitmap) (ys : List ℕ) (y : Bitmap) (ws : List ℕ) (r : Change) (ws' : List ℕ) → Makes (beside_both xs x ys y (combining_from op)) ws r ws'
    → EndsBoth (λ c b s. Combines op (held ys y) (held xs x) s) (LacksResult (λ b s. Combines op (held ys y) (held xs x) s)) xs x ys y ws no_words r ws'

-- `dup_or`
abbrev pub DupUniteMeans : Type 0
DupUniteMeans =
    (xs : List ℕ) (x : Bitmap) (ys : List ℕ) (y : Bitmap) (ws : List ℕ) (r : Change) (ws' : List ℕ) → Makes (beside_both xs x ys y uniting_from) ws r ws'
    → EndsBoth (λ c o s. Unites (held ys y) (held xs x) s) (Lacks (λ o. max x.count y.count)) xs x ys y ws no_words r ws'
