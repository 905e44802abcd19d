-- What the calls of shape.rs promise, for every number. Each is proved in proofs/Promises, what `split_off` promises in proofs/Halves, `CallsExact` in proofs/Once.
use Rattle.std.specs.Prelude.{ℕ, suc, ◌+◌, ◌-◌, ◌*◌, ◌/◌, ◌^◌, ◌≤◌, ◌<◌, max, ◌≡◌, true, false, not, List, ◌⊎◌}
use Rattle.storage.specs.Stores.{Bits, Bounded, Space, no_words, space_of, held}
use Rattle.storage.specs.Promises.{LeastCount, GuardedBoth, Meets, Unchanged, Never, Lacks, Kept, Made, MeetsExactly}
use Rattle.storage.specs.declared.Bitmap.{Bitmap}
use Rattle.shapes.specs.Shapes.{toggling, toggling_region, raising, lowering, truncating, resizing, appending, split_number, split_head, split_tail, Split, Splits}

-- k > 0 numbers, those from i on, below i + k, flip and no others; the words reach to the last
pub record FlippedFrom (i k : ℕ) (b s : Bits) : Type 0 where
  pub inside : (j : ℕ) → i ≤ j → j < i + k → s.members j ≡ not (b.members j)
  pub before : (j : ℕ) → j < i → s.members j ≡ b.members j
  pub after : (j : ℕ) → i + k ≤ j → s.members j ≡ b.members j
  pub count : (last : ℕ) → suc last ≡ i + k → s.count ≡ max b.count (last / 64 + 1)

-- `toggle`
abbrev pub Toggles : Type 0
Toggles = (i : ℕ) → Meets (toggling i) (λ c b s. FlippedFrom i 1 b s) (Lacks (λ b. max b.count (i / 64 + 1)))

-- 4 where the last index passes 2 ^ 64 - 1, then 6 for lack of space
abbrev pub NotFlipped : ℕ → ℕ → Space → Bits → ℕ → Type 0
NotFlipped i k c b m = ((m ≡ 4) × (2 ^ 64 < i + k)) ⊎ ((m ≡ 6) × (i + k ≤ 2 ^ 64) × (c < max b.count ((i + k - 1) / 64 + 1)))

-- `toggle_region`
abbrev pub TogglesRegion : Type 0
TogglesRegion =
    (i k : ℕ) → (k ≡ 0 → ⊥)
    → Meets (toggling_region i k) (λ c b s. (i + k ≤ 2 ^ 64) × FlippedFrom i k b s) (NotFlipped i k)

-- and of 0 numbers nothing, whatever i
abbrev pub TogglesNoRegion : Type 0
TogglesNoRegion = (i : ℕ) → Meets (toggling_region i 0) Unchanged Never

-- t is the greatest member
pub record IsTop (b : Bits) (t : ℕ) : Type 0 where
  pub here : b.members t ≡ true
  pub over : (i : ℕ) → t < i → b.members i ≡ false

-- a member i goes to i + k and nothing else comes in; the words reach to the greatest; with no member nothing changes
pub record RaisedBy (k : ℕ) (b s : Bits) : Type 0 where
  pub goes : (i : ℕ) → b.members i ≡ true → s.members (i + k) ≡ true
  pub comes : (m : ℕ) → s.members m ≡ true → (i : ℕ) × (b.members i ≡ true) × (i + k ≡ m)
  pub count : (t : ℕ) → IsTop b t → (t + k < 2 ^ 64) × (s.count ≡ max b.count ((t + k) / 64 + 1))
  pub nothing : ((i : ℕ) → b.members i ≡ false) → s ≡ b

-- 4 where the greatest member passes 2 ^ 64 - 1, then 6 where that has no word
abbrev pub TopPasses : ℕ → Space → Bits → ℕ → Type 0
TopPasses k c b m =
    (t : ℕ) × IsTop b t × (((m ≡ 4) × (2 ^ 64 ≤ t + k)) ⊎ ((m ≡ 6) × (t + k < 2 ^ 64) × (c < max b.count ((t + k) / 64 + 1))))

-- `shift_left`
abbrev pub Raises : Type 0
Raises = (k : ℕ) → Meets (raising k) (λ c b s. Bounded b → RaisedBy k b s) (λ c b m. Bounded b → TopPasses k c b m)

-- also the tail of `split_off`: a member i from k on goes to i - k, nothing else comes in, in the fewest words
pub record LoweredBy (k : ℕ) (b s : Bits) : Type 0 where
  pub goes : (i : ℕ) → b.members i ≡ true → k ≤ i → s.members (i - k) ≡ true
  pub comes : (m : ℕ) → s.members m ≡ true → (i : ℕ) × (b.members i ≡ true) × (k ≤ i) × (i - k ≡ m)
  pub count : LeastCount s.members b.count s.count

-- `shift_right`
abbrev pub Lowers : Type 0
Lowers = (k : ℕ) → Meets (lowering k) (λ c b s. LoweredBy k b s) Never

-- the members below k, and no others
pub record CutBelow (k : ℕ) (b s : Bits) : Type 0 where
  pub below : (i : ℕ) → i < k → s.members i ≡ b.members i
  pub from : (i : ℕ) → k ≤ i → s.members i ≡ false

-- also the head of `split_off`: those, in the fewest words
pub record TruncatedTo (k : ℕ) (b s : Bits) : Type 0 where
  pub cut : CutBelow k b s
  pub count : LeastCount s.members b.count s.count

-- `truncate_bits`
abbrev pub Truncates : Type 0
Truncates = (k : ℕ) → Meets (truncating k) (λ c b s. TruncatedTo k b s) Never

-- the members below k, in exactly the words that k bits need
pub record ResizedTo (k : ℕ) (b s : Bits) : Type 0 where
  pub cut : CutBelow k b s
  pub holds : k ≤ 64 * s.count
  pub least : (n : ℕ) → k ≤ 64 * n → s.count ≤ n

-- `resize_bits`
abbrev pub Resizes : Type 0
Resizes = (k : ℕ) → Meets (resizing k) (λ c b s. ResizedTo k b s) (Lacks (λ b. (k + 63) / 64))

-- the second bitmap from the first one's length on, a word boundary
pub record JoinedWith (o b s : Bits) : Type 0 where
  pub first : (i : ℕ) → i < 64 * b.count → s.members i ≡ b.members i
  pub second : (i : ℕ) → s.members (64 * b.count + i) ≡ o.members i
  pub count : s.count ≡ b.count + o.count

-- `append`
abbrev pub Joins : Type 0
Joins = (o : Bits) → Bounded o → Meets (appending o) (λ c b s. Bounded b → JoinedWith o b s) (Lacks (λ b. b.count + o.count))

-- and each is exact: done where there is a result as said, with space, and refused with a number where its condition holds
pub record CallsExact : Type 0 where
  pub toggle : (i : ℕ) → MeetsExactly (toggling i) (λ c b s. FlippedFrom i 1 b s) (Lacks (λ b. max b.count (i / 64 + 1)))
  pub toggle_region : (i k : ℕ) → (k ≡ 0 → ⊥) → MeetsExactly (toggling_region i k) (λ c b s. (i + k ≤ 2 ^ 64) × FlippedFrom i k b s) (NotFlipped i k)
  pub shift_left : (k : ℕ) → MeetsExactly (raising k) (λ c b s. Bounded b → RaisedBy k b s) (λ c b m. Bounded b → TopPasses k c b m)
  pub shift_right : (k : ℕ) → MeetsExactly (lowering k) (λ c b s. LoweredBy k b s) Never
  pub truncate : (k : ℕ) → MeetsExactly (truncating k) (λ c b s. TruncatedTo k b s) Never
  pub resize : (k : ℕ) → MeetsExactly (resizing k) (λ c b s. ResizedTo k b s) (Lacks (λ b. (k + 63) / 64))
  pub append : (o : Bits) → Bounded o → MeetsExactly (appending o) (λ c b s. Bounded b → JoinedWith o b s) (Lacks (λ b. b.count + o.count))

-- `split_off` at a bit, by the number x that it answers, the head's count m, the tail's count t and the words ws' and ts' afterwards.
-- Before, the bitmap was b in ws; the tail's store ts has no earlier count, so none of its words was in use.

-- refused with k: the count is the old one, the tail's is 0, and every word of both stores is as it was
pub record SplitKept (b : Bitmap) (ws ts : List ℕ) (x m t : ℕ) (ws' ts' : List ℕ) (k : ℕ) : Type 0 where
  pub head : Kept b.count ws x m ws' k
  pub tail : Kept 0 ts x t ts' k

-- done: the first store holds the head in m words, the second the tail in t words
pub record Halves (at : ℕ) (b : Bitmap) (ws ts : List ℕ) (x m t : ℕ) (ws' ts' : List ℕ) : Type 0 where
  pub head : Made (TruncatedTo at (held ws b)) b.count ws x m ws'
  pub tail : Made (LoweredBy at (held ws b)) 0 ts x t ts'

-- 1 and 2 of the first store, then of the second; then both halves, or 6 where the tail has no space
abbrev pub SplitMeans : ℕ → List ℕ → Bitmap → List ℕ → ℕ → ℕ → ℕ → List ℕ → List ℕ → Type 0
SplitMeans at ws b ts x m t ws' ts' =
    let no = SplitKept b ws ts x m t ws' ts' in
    GuardedBoth ws b ts no_words no (Halves at b ws ts x m t ws' ts' ⊎ (no 6 × (s : Bits) × LoweredBy at (held ws b) s × (space_of ts < s.count)))

-- `split_off`, from its contract
abbrev pub SplitOffMeans : Type 0
SplitOffMeans =
    (at : ℕ) (ws : List ℕ) (b : Bitmap) (ts : List ℕ) (r : Split) (ws' ts' : List ℕ) → Splits at ws b ts r ws' ts'
    → SplitMeans at ws b ts (split_number r) (split_head r).count (split_tail r) ws' ts'

-- and refused, with whatever number, it returns the old record and leaves both stores
abbrev pub SplitKeeps : Type 0
SplitKeeps =
    (at : ℕ) (ws : List ℕ) (b : Bitmap) (ts : List ℕ) (r : Split) (ws' ts' : List ℕ) → Splits at ws b ts r ws' ts' → 0 < split_number r
    → (split_head r ≡ b) × (split_tail r ≡ 0) × (ws' ≡ ws) × (ts' ≡ ts)
