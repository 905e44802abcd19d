-- What a call makes of a bitmap. Its meaning is a set of numbers and a word count; a call is an operation on those, and the words follow:
-- word k in use is the set's, a word that falls out of use is 0, and a word outside both counts is as it was (01, "Words that enter and leave use").
use Rattle.std.specs.Prelude.{ℕ, ◌+◌, ◌-◌, ◌*◌, ◌/◌, ◌^◌, ◌≤◌, ◌<◌, max, ◌≡◌, Bool, false, ◌&&◌, List, length, get_or, ltb, leb, eqb, Some, None, Ok, Err}
use Rattle.word.specs.Sets.{choose, xorb, count_below, least_from, top_below}
use Rattle.word.specs.Places.{word_of, member, tab_from}
use Rattle.arch.specs.Scans.{filled_words}
use Rattle.pairs.specs.Pairs.{table_of}
use Rattle.pairs.specs.declared.SetOp.{SetOp}
use Rattle.storage.specs.declared.Bitmap.{Bitmap}
use Rattle.storage.specs.declared.Refusal.{Refusal}
use Rattle.storage.specs.declared.Refusal.TheVariants.{StoreTooLong, CountOverStore, NoSpace}
use Rattle.storage.specs.Refusals.{Found, Change, refusing}

-- the meaning of a bitmap: its members, and the words in use
pub record Bits : Type 0 where
  pub members : ℕ → Bool
  pub count : ℕ

-- no number past the words in use is a member
pub record Bounded (b : Bits) : Type 0 where
  pub past : (i : ℕ) → 64 * b.count ≤ i → b.members i ≡ false

pub data Outcome : Type 0 where
  refused : Refusal → Outcome
  done : Bits → Outcome

-- the space that a result may take, in words
abbrev pub Space : Type 0
Space = ℕ

-- an operation, from the space there is and the bitmap's meaning
abbrev pub Op : Type 0
Op = Space → Bits → Outcome

-- one operation after another: the second sees what the first made, and a refusal stays
unfoldable pub and_then : Outcome → (Bits → Outcome) → Outcome
and_then (refused e) next = refused e
and_then (done s) next = next s

-- the most words that a store may have
abbrev pub store_limit : ℕ
store_limit = 67_108_864

-- every record is made of another by the count alone, or is the one of no words
abbrev pub with_count : Bitmap → ℕ → Bitmap
with_count b n = record { count = n }

abbrev pub no_words : Bitmap
no_words = record { count = 0 }

-- the record of n words, where there is no earlier one
abbrev pub bitmap_of : ℕ → Bitmap
bitmap_of n = with_count no_words n

-- the space of a store
abbrev pub space_of : List ℕ → Space
space_of ws = length ws

-- 1 and then 2 come before all else: a store over the limit, a count over its store
unfoldable pub checked : {A : Type 0} → List ℕ → Bitmap → (Refusal → A) → A → A
checked ws b refuse a = choose (ltb store_limit (length ws)) (refuse StoreTooLong) (choose (ltb (length ws) b.count) (refuse CountOverStore) a)

-- the first n words of a store
unfoldable pub view : List ℕ → ℕ → Bits
view ws n = record { members = λ i. ltb (i / 64) n && member ws i; count = n }

-- the bitmap whose record is b
abbrev pub held : List ℕ → Bitmap → Bits
held ws b = view ws b.count

-- an operation with a second bitmap, o in the store os: it is looked at after the first
unfoldable pub beside : List ℕ → Bitmap → (Bits → Op) → Op
unfolding checked view
beside os o op c b = checked os o refused (op (held os o) c b)

-- a call that only reads: what f answers of the bitmap, after 1 and 2
unfoldable pub reading : {A : Type 0} → List ℕ → Bitmap → (Refusal → A) → (Bits → A) → A
unfolding checked view
reading ws b refuse f = checked ws b refuse (f (held ws b))

-- a call that reads two bitmaps: what f answers of both, after 1 and 2 of the first store and then of the second
unfoldable pub reading_both : {A : Type 0} → List ℕ → Bitmap → List ℕ → Bitmap → (Refusal → A) → (Bits → Bits → A) → A
unfolding reading
reading_both ws b os o refuse f = reading ws b refuse (λ s. reading os o refuse (f s))

-- how many members there are
unfoldable pub size : Bits → ℕ
size b = count_below b.members (64 * b.count)

-- the numbers that an operation makes members by its truth table, in as many words as the longer
unfoldable pub combined : SetOp → Bits → Bits → Bits
combined op b o = record { members = λ i. table_of op (b.members i) (o.members i); count = max b.count o.count }

-- a place found below e, or nothing
unfoldable pub found_below : ℕ → ℕ → Found
found_below e p = choose (ltb p e) (Ok (Some p)) (Ok None)

-- the least member from i on
unfoldable pub next_from : Bits → ℕ → Found
unfolding found_below
next_from b i = found_below (64 * b.count) (least_from b.members i (64 * b.count - i))

-- 6 where the result has more words than there are
unfoldable pub within : Space → Bits → Outcome
within c b = choose (ltb c b.count) (refused NoSpace) (done b)

-- the words up to the one of bit i
abbrev pub up_to : ℕ → ℕ
up_to i = i / 64 + 1

-- i flipped, and the words up to its own
abbrev pub flipped : ℕ → Bits → Bits
flipped i b = record { members = λ j. xorb (b.members j) (eqb j i); count = max b.count (up_to i) }

-- i lies in the k numbers from a on
abbrev pub in_region : ℕ → ℕ → ℕ → Bool
in_region a k i = leb a i && ltb i (a + k)

-- the last of k > 0 numbers from i on passes 2 ^ 64 - 1
abbrev pub passes : ℕ → ℕ → Bool
passes i k = ltb (2 ^ 64) (i + k)

-- the words that n bits need
unfoldable pub words_for : ℕ → ℕ
words_for n = (n + 63) / 64

-- the fewest words that hold every member of the first n words: trailing zero words are dropped
unfoldable pub trimmed_count : (ℕ → Bool) → ℕ → ℕ
unfolding words_for
trimmed_count s n = words_for (top_below s (64 * n))

abbrev pub trimmed : Bits → Bits
trimmed b = record { members = b.members; count = trimmed_count b.members b.count }

-- word k of a store whose bitmap of n words has become b
unfoldable pub word_at : List ℕ → ℕ → Bits → ℕ → ℕ
word_at ws n b k =
    let w = word_of b.members k in
    choose (ltb k b.count) w (choose (ltb k n) 0 (get_or ws k 0))

unfoldable pub written : List ℕ → ℕ → Bits → List ℕ
unfolding tab_from word_at
written ws n b = tab_from 0 (length ws) (word_at ws n b)

-- growth: the words between the old and the new count are 0
unfoldable pub zeroed : ℕ → ℕ → List ℕ → List ℕ
unfolding filled_words
zeroed old new ws = filled_words old new 0 ws

-- what is answered, and what is left in the store: a refusal returns the old record and leaves every word
unfoldable pub answer : Outcome → Bitmap → Change
answer (refused e) b = refusing b e
answer (done s) b = Ok (with_count b s.count)

unfoldable pub store : Outcome → List ℕ → ℕ → List ℕ
unfolding written
store (refused e) ws n = ws
store (done s) ws n = written ws n s

-- a call that came to the outcome o answers r and leaves ws' of the store ws, in which the bitmap was b
pub record Leaves (o : Outcome) (ws : List ℕ) (b : Bitmap) (r : Change) (ws' : List ℕ) : Type 0 where
  pub answers : r ≡ answer o b
  pub leaves : ws' ≡ store o ws b.count

-- what an operation makes of the bitmap in a store
unfoldable pub outcome : Op → List ℕ → Bitmap → Outcome
unfolding checked view
outcome op ws b = checked ws b refused (op (space_of ws) (held ws b))

-- a call that carries out op on the store ws and the bitmap b
abbrev pub Changes : Op → List ℕ → Bitmap → Change → List ℕ → Type 0
Changes op ws b r ws' = Leaves (outcome op ws b) ws b r ws'

-- a call that makes a bitmap in a store with no earlier count: no word was in use, and a refusal returns 0
abbrev pub Makes : Op → List ℕ → Change → List ℕ → Type 0
Makes op ws r ws' = Changes op ws no_words r ws'

-- room for `need` words in the store ws, in which the bitmap was b: the words that come into use are 0 and counted, or 6 where there are fewer
abbrev pub Grows : List ℕ → Bitmap → ℕ → Change → List ℕ → Type 0
Grows ws b need (Ok grown) ws' = (need ≤ length ws) × (ws' ≡ zeroed b.count need ws) × (grown.count ≡ max b.count need)
Grows ws b need (Err e) ws' = (length ws < need) × (ws' ≡ ws) × (e ≡ (NoSpace, b))
