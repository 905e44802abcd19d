-- What the definitions promise, in words of their own. Each is proved in proofs/Promises.
use Rattle.std.specs.Prelude.{ℕ, suc, ◌+◌, ◌*◌, ◌≤◌, ◌<◌, ◌^◌, max, ◌≡◌, Bool, true, false, List, ◌↔◌, ◌⊎◌, length, get_or, Some, None, Ok, Err, ⊤}
use Rattle.word.specs.Sets.{Counted}
use Rattle.word.specs.Places.{member}
use Rattle.pairs.specs.Promises.{ComesIn}
use Rattle.pairs.specs.declared.SetOp.{SetOp}
use Rattle.pairs.specs.declared.SetOp.TheVariants.{Or}
use Rattle.storage.specs.Guards.{most_words, Stopped, Passed}
use Rattle.storage.specs.Refusals.{last_number, number_of, Found, Amount, Truth, Change, Guard, passing, refusing, answer_number, found_flag, found_value}
use Rattle.storage.specs.Refusals.{amount_value, truth_value, change_number, change_record}
use Rattle.storage.specs.Stores.{Bits, Bounded, Outcome, refused, done, Space, Op, with_count, no_words, bitmap_of, checked, view}
use Rattle.storage.specs.Stores.{beside, reading, reading_both, size, combined, next_from, within, up_to, in_region, passes, words_for, trimmed_count, trimmed}
use Rattle.storage.specs.Stores.{written, zeroed, Changes, Makes}
use Rattle.storage.specs.declared.Bitmap.{Bitmap}
use Rattle.storage.specs.declared.Refusal.{Refusal}

-- the record of no words, and one with another count
pub record RecordsMean : Type 0 where
  pub none : no_words.count ≡ 0
  pub made : (b : Bitmap) (n : ℕ) → (with_count b n).count ≡ n
  pub kept : (b : Bitmap) → with_count b b.count ≡ b
  pub alone : (n : ℕ) → (bitmap_of n).count ≡ n

-- demand 1: the numbers from 1 to the last, each for one refusal
pub record EachNumberOnce : Type 0 where
  pub range : (e : Refusal) → (1 ≤ number_of e) × (number_of e ≤ last_number)
  pub once : (d e : Refusal) → number_of d ≡ number_of e → d ≡ e
  pub each : (n : ℕ) → 1 ≤ n → n ≤ last_number → (e : Refusal) × (number_of e ≡ n)

-- demand 1: `No k` says that the call is refused with k, `Rest` what holds where neither applies; a second store's guard stands in the rest of the first one's
pub record Guarded (ws : List ℕ) (b : Bitmap) (No : ℕ → Type 0) (Rest : Type 0) : Type 0 where
  pub stop : (k : ℕ) → Stopped ws b k → No k
  pub rest : Passed ws b → Rest

-- a guard that stops gives back the record b
abbrev pub GivesBack : Bitmap → Guard → Type 0
GivesBack b (Ok a) = ⊤
GivesBack b (Err r) = r.1 ≡ b

-- a guard stops with k and gives back the record b
abbrev pub Stops : Guard → Bitmap → ℕ → Type 0
Stops g b k = (change_number g ≡ k) × GivesBack b g

-- `check`
abbrev pub CheckMeans : Type 0
CheckMeans =
    (ws : List ℕ) (b : Bitmap)
    → let g : Guard = checked ws b (refusing b) passing in
    Guarded ws b (Stops g b) (change_number g ≡ 0)

-- of two stores, the first one's first
abbrev pub GuardedBoth : List ℕ → Bitmap → List ℕ → Bitmap → (ℕ → Type 0) → Type 0 → Type 0
GuardedBoth ws b os o No Rest = Guarded ws b No (Guarded os o No Rest)

-- `check_two` and `check_three`
abbrev pub CheckTwoMeans : Type 0
CheckTwoMeans =
    (ws : List ℕ) (b : Bitmap) (os : List ℕ) (o : Bitmap)
    → let g : Guard = checked ws b (refusing b) (checked os o (refusing b) passing) in
    GuardedBoth ws b os o (Stops g b) (change_number g ≡ 0)

abbrev pub CheckThreeMeans : Type 0
CheckThreeMeans =
    (ws : List ℕ) (b : Bitmap) (ls : List ℕ) (l : Bitmap) (rs : List ℕ) (r : Bitmap)
    → let g : Guard = checked ws b (refusing b) (checked ls l (refusing b) (checked rs r (refusing b) passing)) in
    Guarded ws b (Stops g b) (GuardedBoth ls l rs r (Stops g b) (change_number g ≡ 0))

-- demand 1: whatever the operation, a call whose number is not 0 returns the old record and leaves every word
abbrev pub RefusalKeeps : Type 0
RefusalKeeps =
    (op : Op) (ws ws' : List ℕ) (b : Bitmap) (r : Change) → Changes op ws b r ws' → 0 < change_number r → (change_record r ≡ b) × (ws' ≡ ws)

-- the words from the old count on, below the new one, are 0, the others as they were
pub record Zeroes (old new : ℕ) (ws ws' : List ℕ) : Type 0 where
  pub long : length ws' ≡ length ws
  pub zero : (k : ℕ) → old ≤ k → k < new → get_or ws' k 0 ≡ 0
  pub below : (k : ℕ) → k < old → get_or ws' k 0 ≡ get_or ws k 0
  pub above : (k : ℕ) → new ≤ k → get_or ws' k 0 ≡ get_or ws k 0

-- `zero_words`
abbrev pub ZeroWordsMean : Type 0
ZeroWordsMean = (old new : ℕ) (ws : List ℕ) → Zeroes old new ws (zeroed old new ws)

-- demand 2: words and sets determine each other
pub record WordsAndSets : Type 0 where
  -- words of one length with the same members are equal
  pub words : (xs ys : List ℕ) → ((k : ℕ) → get_or xs k 0 < 2 ^ 64) → ((k : ℕ) → get_or ys k 0 < 2 ^ 64) → length xs ≡ length ys
      → ((i : ℕ) → member xs i ≡ member ys i) → xs ≡ ys
  -- what is written reads back
  pub back : (ws : List ℕ) (n : ℕ) (b : Bits) → b.count ≤ length ws → n ≤ length ws → Bounded b → view (written ws n b) b.count ≡ b
  -- to write what is read changes nothing
  pub same : (ws : List ℕ) (n : ℕ) → ((k : ℕ) → get_or ws k 0 < 2 ^ 64) → ws ≡ written ws n (view ws n)

-- demand 2: a word that enters use is the set's, one that leaves it is 0, one outside both counts is as it was
pub record SpaceRules (ws : List ℕ) (n : ℕ) (b : Bits) (ws' : List ℕ) : Type 0 where
  pub long : length ws' ≡ length ws
  pub used : (i : ℕ) → i < 64 * b.count → member ws' i ≡ b.members i
  pub dropped : (k : ℕ) → b.count ≤ k → k < n → get_or ws' k 0 ≡ 0
  pub kept : (k : ℕ) → b.count ≤ k → n ≤ k → get_or ws' k 0 ≡ get_or ws k 0

abbrev pub WrittenMeans : Type 0
WrittenMeans = (ws : List ℕ) (n : ℕ) (b : Bits) → b.count ≤ length ws → n ≤ length ws → SpaceRules ws n b (written ws n b)

-- demand 2: 6 exactly where the result has more words than there are
pub record SpaceExact : Type 0 where
  pub enough : (c : Space) (b : Bits) → b.count ≤ c → within c b ≡ done b
  pub lacking : (c : Space) (b : Bits) → c < b.count → (e : Refusal) × (within c b ≡ refused e) × (number_of e ≡ 6)

-- demand 2: the trimmed count holds all members, and is the least that does
pub record LeastCount (s : ℕ → Bool) (n m : ℕ) : Type 0 where
  pub low : m ≤ n
  pub holds : (i : ℕ) → i < 64 * n → s i ≡ true → i < 64 * m
  pub least : (k : ℕ) → ((i : ℕ) → i < 64 * n → s i ≡ true → i < 64 * k) → m ≤ k

abbrev pub TrimmedCountMeans : Type 0
TrimmedCountMeans = (s : ℕ → Bool) (n : ℕ) → LeastCount s n (trimmed_count s n)

-- demand 2: s has exactly the numbers that come in by an operation of b and o
abbrev pub MadeOf : SetOp → Bits → Bits → (ℕ → Bool) → Type 0
MadeOf op b o s = (i : ℕ) → (s i ≡ true) ↔ ComesIn op (b.members i) (o.members i)

-- demand 2: a set operation of b and o, in the fewest words that hold the result
pub record Combines (op : SetOp) (o b s : Bits) : Type 0 where
  pub each : MadeOf op b o s.members
  pub count : LeastCount s.members (max b.count o.count) s.count

abbrev pub CombinedMeans : Type 0
CombinedMeans = (op : SetOp) (b o : Bits) → Combines op o b (trimmed (combined op b o))

-- demand 2: the members of either, in as many words as the longer
pub record Unites (o b s : Bits) : Type 0 where
  pub each : MadeOf Or b o s.members
  pub count : s.count ≡ max b.count o.count

abbrev pub UnitedMeans : Type 0
UnitedMeans = (b o : Bits) → Unites o b (combined Or b o)

-- the members in the words in use, whatever counts them
abbrev pub SizeMeans : Type 0
SizeMeans = (b : Bits) → Counted b.members (64 * b.count) (size b)

-- words and regions, in numbers
pub record PlacesMean : Type 0 where
  -- n words have bit i exactly where it is below their bits, and k bits where those are no fewer
  pub up_to_lem : (i n : ℕ) → (up_to i ≤ n) ↔ (i < 64 * n)
  pub words_for : (k n : ℕ) → (words_for k ≤ n) ↔ (k ≤ 64 * n)
  -- the numbers of a region, and where its last one is no index
  pub in_region : (a k i : ℕ) → (in_region a k i ≡ true) ↔ ((a ≤ i) × (i < a + k))
  pub passing : (i k last : ℕ) → suc last ≡ i + k → (passes i k ≡ true) ↔ (18_446_744_073_709_551_615 < last)

-- What a call hands out, by the number x that it answers, the flag f and the value v.

-- refused with k: the value is 0, and so is the flag of a search
abbrev pub HandsNone : ℕ → ℕ → ℕ → Type 0
HandsNone x v k = (x ≡ k) × (v ≡ 0)

abbrev pub FindsNone : ℕ → ℕ → ℕ → ℕ → Type 0
FindsNone x f v k = (x ≡ k) × (f ≡ 0) × (v ≡ 0)

-- what is told of each answer: 0 and its value, or its number and 0
pub record AnswersTell : Type 0 where
  pub place : (p : ℕ) → let r : Found = Ok (Some p) in (answer_number r ≡ 0) × (found_flag r ≡ 1) × (found_value r ≡ p)
  pub no_place : let r : Found = Ok None in FindsNone (answer_number r) (found_flag r) (found_value r) 0
  pub number : (n : ℕ) → let r : Amount = Ok n in (answer_number r ≡ 0) × (amount_value r ≡ n)
  pub holds : let r : Truth = Ok true in (answer_number r ≡ 0) × (truth_value r ≡ 1)
  pub fails : let r : Truth = Ok false in (answer_number r ≡ 0) × (truth_value r ≡ 0)
  pub change : (b : Bitmap) → let r : Change = Ok b in (change_number r ≡ 0) × (change_record r ≡ b)
  pub pass : let g : Guard = passing in change_number g ≡ 0
  pub stop : (e : Refusal) (b : Bitmap) → let g : Guard = refusing b e in Stops g b (number_of e)
  pub no_found : (e : Refusal) → let r : Found = Err e in FindsNone (answer_number r) (found_flag r) (found_value r) (number_of e)
  pub no_number : (e : Refusal) → let r : Amount = Err e in HandsNone (answer_number r) (amount_value r) (number_of e)
  pub no_truth : (e : Refusal) → let r : Truth = Err e in HandsNone (answer_number r) (truth_value r) (number_of e)
  pub no_change : (e : Refusal) (b : Bitmap) → let r : Change = refusing b e in (change_number r ≡ number_of e) × (change_record r ≡ b)

-- a number of which the rule holds
abbrev pub Hands : (ℕ → Type 0) → ℕ → ℕ → Type 0
Hands rule x v = (x ≡ 0) × rule v

-- a truth value: 1 exactly where P holds, else 0
abbrev pub Tests : Type 0 → ℕ → ℕ → Type 0
Tests P x v = (x ≡ 0) × (((v ≡ 1) × P) ⊎ ((v ≡ 0) × ¬ P))

-- a place of which the rule holds, or nothing, where there is none
abbrev pub Finds : (ℕ → Type 0) → Type 0 → ℕ → ℕ → ℕ → Type 0
Finds rule none x f v = (x ≡ 0) × (((f ≡ 1) × rule v) ⊎ ((f ≡ 0) × (v ≡ 0) × none))

-- demand 2: a scan or a walk from i finds a member, at least i, with none between; nothing only where no member is at least i
abbrev pub NextMember : (ℕ → Bool) → ℕ → ℕ → ℕ → ℕ → Type 0
NextMember s i =
    Finds (λ p. (i ≤ p) × (s p ≡ true) × ((q : ℕ) → i ≤ q → q < p → s q ≡ false)) ((q : ℕ) → i ≤ q → s q ≡ false)

abbrev pub NextFromMeans : Type 0
NextFromMeans =
    (b : Bits) → Bounded b → (i : ℕ)
    → let r = next_from b i in
    NextMember b.members i (answer_number r) (found_flag r) (found_value r)

-- a call that only reads, whatever it answers: 1 and 2 of the store, then what holds of its answer for every bitmap; so of two bitmaps
pub record ReadingsMean : Type 1 where
  pub one : (A : Type 0) (refuse : Refusal → A) (f : Bits → A) (No : A → ℕ → Type 0) (Rest : Bits → A → Type 0)
      → ((e : Refusal) → No (refuse e) (number_of e)) → ((b : Bits) → Bounded b → Rest b (f b))
      → (ws : List ℕ) (b : Bitmap) (r : A) → r ≡ reading ws b refuse f → Guarded ws b (No r) (Rest (view ws b.count) r)
  pub two : (A : Type 0) (refuse : Refusal → A) (f : Bits → Bits → A) (No : A → ℕ → Type 0) (Rest : Bits → Bits → A → Type 0)
      → ((e : Refusal) → No (refuse e) (number_of e)) → ((b o : Bits) → Bounded b → Bounded o → Rest b o (f b o))
      → (ws : List ℕ) (b : Bitmap) (os : List ℕ) (o : Bitmap) (r : A) → r ≡ reading_both ws b os o refuse f
      → GuardedBoth ws b os o (No r) (Rest (view ws b.count) (view os o.count) r)

-- A call that only reads, by its contract: 1 and 2 of the store, then what holds of the bitmap, the number and the value, and of a search the flag.

abbrev pub AmountCall : (Bits → Amount) → (Bits → ℕ → ℕ → Type 0) → Type 0
AmountCall f Rest =
    (ws : List ℕ) (b : Bitmap) (r : Amount) → r ≡ reading ws b Err f
    → let x = answer_number r in
    let v = amount_value r in
    Guarded ws b (HandsNone x v) (Rest (view ws b.count) x v)

abbrev pub TruthCall : (Bits → Truth) → (Bits → ℕ → ℕ → Type 0) → Type 0
TruthCall f Rest =
    (ws : List ℕ) (b : Bitmap) (r : Truth) → r ≡ reading ws b Err f
    → let x = answer_number r in
    let v = truth_value r in
    Guarded ws b (HandsNone x v) (Rest (view ws b.count) x v)

abbrev pub FoundCall : (Bits → Found) → (Bits → ℕ → ℕ → ℕ → Type 0) → Type 0
FoundCall f Rest =
    (ws : List ℕ) (b : Bitmap) (r : Found) → r ≡ reading ws b Err f
    → let x = answer_number r in
    let t = found_flag r in
    let v = found_value r in
    Guarded ws b (FindsNone x t v) (Rest (view ws b.count) x t v)

-- an operation whose results have space and hold no member past their words
pub record Contained (op : Op) : Type 0 where
  pub space : (c : Space) (b s : Bits) → Bounded b → b.count ≤ c → op c b ≡ done s → s.count ≤ c
  pub bound : (c : Space) (b s : Bits) → Bounded b → b.count ≤ c → op c b ≡ done s → Bounded s

-- what is done is as the rule says, has space and no member past its words; what is refused gets its number where the condition holds
pub record Meets (op : Op) (rule : Space → Bits → Bits → Type 0) (no : Space → Bits → ℕ → Type 0) : Type 0 where
  pub made : (c : Space) (b s : Bits) → op c b ≡ done s → rule c b s
  pub contained : Contained op
  pub why : (c : Space) (b : Bits) (e : Refusal) → op c b ≡ refused e → no c b (number_of e)

-- a call that changes nothing
abbrev pub Unchanged : Space → Bits → Bits → Type 0
Unchanged c b s = s ≡ b

-- a call that is never refused
abbrev pub Never : Space → Bits → ℕ → Type 0
Never c b k = ⊥

-- 6, where the count n of the result is above the capacity
abbrev pub Lacks : (Bits → ℕ) → Space → Bits → ℕ → Type 0
Lacks n c b k = (k ≡ 6) × (c < n b)

-- 6, where a result as the rule says has more words than there are
abbrev pub LacksResult : (Bits → Bits → Type 0) → Space → Bits → ℕ → Type 0
LacksResult rule c b k = (k ≡ 6) × ((s : Bits) × rule b s × (c < s.count))

-- What a changing call answers and leaves, by its number x, its count m and the store's words ws' afterwards. Before there were n words in use of ws.

-- refused with k: the count and every word are as they were
pub record Kept (n : ℕ) (ws : List ℕ) (x m : ℕ) (ws' : List ℕ) (k : ℕ) : Type 0 where
  pub number : x ≡ k
  pub count : m ≡ n
  pub words : ws' ≡ ws

-- done: the store holds in m words what the rule says, and the other words follow
pub record Made (rule : Bits → Type 0) (n : ℕ) (ws : List ℕ) (x m : ℕ) (ws' : List ℕ) : Type 0 where
  pub number : x ≡ 0
  pub made : rule (view ws' m)
  pub inside : m ≤ length ws
  pub words : SpaceRules ws n (view ws' m) ws'

-- done, or refused with a number whose condition holds
abbrev pub Ends : (Bits → Type 0) → (ℕ → Type 0) → ℕ → List ℕ → ℕ → ℕ → List ℕ → Type 0
Ends rule why n ws x m ws' = Made rule n ws x m ws' ⊎ ((0 < x) × why x × Kept n ws x m ws' x)

-- the rule and the conditions are an operation's, at the store's capacity and the bitmap b
abbrev pub EndsAs : (Space → Bits → Bits → Type 0) → (Space → Bits → ℕ → Type 0) → Bits → List ℕ → ℕ → ℕ → List ℕ → Type 0
EndsAs rule why b ws x m ws' = Ends (rule (length ws) b) (why (length ws) b) b.count ws x m ws'

-- 1 and 2 of the store and its record, and then that end
abbrev pub CallEnds : (Space → Bits → Bits → Type 0) → (Space → Bits → ℕ → Type 0) → List ℕ → Bitmap → ℕ → ℕ → List ℕ → Type 0
CallEnds rule why ws b x m ws' = Guarded ws b (Kept b.count ws x m ws') (EndsAs rule why (view ws b.count) ws x m ws')

-- demands 1 and 2 of a call of any operation, from its contract
abbrev pub ChangeMeans : Type 1
ChangeMeans =
    (op : Op) (rule : Space → Bits → Bits → Type 0) (why : Space → Bits → ℕ → Type 0) → Meets op rule why
    → (ws ws' : List ℕ) (b : Bitmap) (r : Change) → Changes op ws b r ws'
    → CallEnds rule why ws b (change_number r) (change_record r).count ws'

-- a call that makes a bitmap: no word was in use, and a refusal answers count 0
abbrev pub MakeMeans : Type 1
MakeMeans =
    (op : Op) (rule : Space → Bits → Bits → Type 0) (why : Space → Bits → ℕ → Type 0) → Meets op rule why
    → (ws ws' : List ℕ) (r : Change) → Makes op ws r ws' → CallEnds rule why ws no_words (change_number r) (change_record r).count ws'

-- and with a second bitmap, o in os, whose store is looked at after the first
abbrev pub BesideEnds : (Bits → Space → Bits → Bits → Type 0) → (Bits → Space → Bits → ℕ → Type 0) → List ℕ → Bitmap → List ℕ → Bitmap → ℕ → ℕ → List ℕ
    → Type 0
BesideEnds rule why os o ws b x m ws' =
    Guarded ws b (Kept b.count ws x m ws')
    (Guarded os o (Kept b.count ws x m ws')
    (EndsAs (rule (view os o.count)) (why (view os o.count)) (view ws b.count) ws x m ws'))

abbrev pub BesideMeans : Type 1
BesideMeans =
    (op : Bits → Op) (rule : Bits → Space → Bits → Bits → Type 0) (why : Bits → Space → Bits → ℕ → Type 0) → ((o : Bits) → Bounded o → Meets (op o) (rule o) (why o))
    → (os ws ws' : List ℕ) (o b : Bitmap) (r : Change) → Changes (beside os o op) ws b r ws'
    → BesideEnds rule why os o ws b (change_number r) (change_record r).count ws'

-- in c words: the rule makes one result, no two conditions hold, and none does where a result has space
pub record OneEnd (c : Space) (rule : Bits → Type 0) (why : ℕ → Type 0) : Type 0 where
  pub result : (s t : Bits) → rule s → rule t → s ≡ t
  pub number : (k l : ℕ) → why k → why l → k ≡ l
  pub apart : (s : Bits) (k : ℕ) → rule s → s.count ≤ c → why k → ⊥

-- of every bitmap that 1 and 2 let pass
abbrev pub EndsOnce : (Space → Bits → Bits → Type 0) → (Space → Bits → ℕ → Type 0) → Type 0
EndsOnce rule why = (c : Space) (b : Bits) → c ≤ most_words → b.count ≤ c → Bounded b → OneEnd c (rule c b) (why c b)

-- the operation is done exactly with a result that has space, and refused with k exactly where its condition holds
pub record Exactly (c : Space) (o : Outcome) (rule : Bits → Type 0) (why : ℕ → Type 0) : Type 0 where
  pub done_is : (s : Bits) → (o ≡ done s) ↔ (rule s × (s.count ≤ c))
  pub refused_is : (k : ℕ) → ((e : Refusal) × (o ≡ refused e) × (number_of e ≡ k)) ↔ why k

abbrev pub MeetsExactly : Op → (Space → Bits → Bits → Type 0) → (Space → Bits → ℕ → Type 0) → Type 0
MeetsExactly op rule why = (c : Space) (b : Bits) → c ≤ most_words → b.count ≤ c → Bounded b → Exactly c (op c b) (rule c b) (why c b)

-- where a call ends once, its promise is exact
abbrev pub OnceExact : Type 1
OnceExact = (op : Op) (rule : Space → Bits → Bits → Type 0) (why : Space → Bits → ℕ → Type 0) → Meets op rule why → EndsOnce rule why → MeetsExactly op rule why

-- and where that is exact, what is promised of a call leaves it one number, one count and one content of the store
abbrev pub Determines : Type 1
Determines =
    (op : Op) (rule : Space → Bits → Bits → Type 0) (why : Space → Bits → ℕ → Type 0) → MeetsExactly op rule why
    → (ws xs ys : List ℕ) (b : Bitmap) (x y k m : ℕ) → ((i : ℕ) → get_or xs i 0 < 2 ^ 64) → ((i : ℕ) → get_or ys i 0 < 2 ^ 64)
    → CallEnds rule why ws b x k xs → CallEnds rule why ws b y m ys → (x ≡ y) × (k ≡ m) × (xs ≡ ys)

-- so with a second bitmap
abbrev pub DeterminesBeside : Type 1
DeterminesBeside =
    (op : Bits → Op) (rule : Bits → Space → Bits → Bits → Type 0) (why : Bits → Space → Bits → ℕ → Type 0)
    → ((o : Bits) → Bounded o → MeetsExactly (op o) (rule o) (why o))
    → (os ws xs ys : List ℕ) (o b : Bitmap) (x y k m : ℕ) → ((i : ℕ) → get_or xs i 0 < 2 ^ 64) → ((i : ℕ) → get_or ys i 0 < 2 ^ 64)
    → BesideEnds rule why os o ws b x k xs → BesideEnds rule why os o ws b y m ys → (x ≡ y) × (k ≡ m) × (xs ≡ ys)

-- calls in a row: the next call on the record and the store that a call left sees exactly what the operation made
pub record Seen (op : Op) (ws : List ℕ) (b b' : Bitmap) (ws' : List ℕ) (s : Bits) : Type 0 where
  pub made : op (length ws) (view ws b.count) ≡ done s
  pub long : length ws' ≡ length ws
  pub seen : view ws' b'.count ≡ s
  pub record_is : b' ≡ with_count b s.count
  pub passes : Passed ws' b'

abbrev pub Chains : Type 0
Chains =
    (op : Op) (ws ws' : List ℕ) (b : Bitmap) (r : Change) → Contained op → Changes op ws b r ws' → change_number r ≡ 0
    → (s : Bits) × Seen op ws b (change_record r) ws' s
