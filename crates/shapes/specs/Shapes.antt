-- The calls of shape.rs, on sets and counts (01, "Words that enter and leave use"). Shifts here are `Bitmap`'s.
use Rattle.std.specs.Prelude.{ℕ, ◌+◌, ◌-◌, ◌*◌, max, ◌≡◌, ◌&&◌, ◌||◌, Result, Ok, Err, List, ltb, eqb}
use Rattle.word.specs.Sets.{choose, xorb, top_below}
use Rattle.storage.specs.Refusals.{number_of, refusing}
use Rattle.storage.specs.Stores.{Bits, Outcome, refused, done, Op, with_count, no_words, space_of, checked, view, held, within, up_to, flipped, in_region, passes, words_for, trimmed, store, and_then}
use Rattle.storage.specs.declared.Bitmap.{Bitmap}
use Rattle.storage.specs.declared.Refusal.TheVariants.{IndexOver}
use Rattle.storage.specs.declared.Refused.{Refused}
use Rattle.shifts.specs.Shifts.{moved_up, moved_down}

-- one past the greatest member; 0 where there is none
abbrev pub top_of : Bits → ℕ
top_of b = top_below b.members (64 * b.count)

-- the members below k, in as many words as before
abbrev pub cut_at : ℕ → Bits → Bits
cut_at k b = record { members = λ i. ltb i k && b.members i; count = b.count }

unfoldable pub toggling : ℕ → Op
toggling i c b = within c (flipped i b)

unfoldable pub toggling_region : ℕ → ℕ → Op
toggling_region i k c b =
    let put = within c (record { members = λ j. xorb (b.members j) (in_region i k j); count = max b.count (up_to (i + k - 1)) }) in
    choose (eqb k 0) (done b) (choose (passes i k) (refused IndexOver) put)

-- every member k up: 4 where the greatest passes 2 ^ 64 - 1, 6 where it has no word; with no members nothing changes
unfoldable pub raising : ℕ → Op
unfolding moved_up words_for
raising k c b =
    let put = within c (record { members = moved_up k b.members; count = max b.count (words_for (top_of b + k)) }) in
    choose (eqb (top_of b) 0) (done b) (choose (passes (top_of b) k) (refused IndexOver) put)

-- every member from k on k down, trailing zero words dropped
unfoldable pub lowered : ℕ → Bits → Bits
unfolding moved_down
lowered k b = trimmed (record { members = moved_down k b.members; count = b.count })

unfoldable pub lowering : ℕ → Op
lowering k c b = done (lowered k b)

-- the members below k, trailing zero words dropped
unfoldable pub truncated : ℕ → Bits → Bits
truncated k b = trimmed (cut_at k b)

unfoldable pub truncating : ℕ → Op
truncating k c b = done (truncated k b)

-- exactly the words that k bits need
unfoldable pub resizing : ℕ → Op
resizing k c b = within c (record { members = (cut_at k b).members; count = words_for k })

-- the second bitmap behind the words in use of the first
abbrev pub joined : Bits → Bits → Bits
joined o b = record { members = λ i. b.members i || moved_up (64 * b.count) o.members i; count = b.count + o.count }

unfoldable pub appending : Bits → Op
unfolding moved_up
appending o c b = within c (joined o b)

-- `split_off` of the bitmap b in ws: the tail in the store ts, which has no earlier count, 1 and 2 for each store in order
unfoldable pub tail_outcome : ℕ → List ℕ → Bitmap → List ℕ → Outcome
unfolding checked view lowered
tail_outcome at ws b ts = checked ws b refused (checked ts no_words refused (within (space_of ts) (lowered at (held ws b))))

-- the head is cut only where the tail has space
unfoldable pub head_outcome : ℕ → List ℕ → Bitmap → List ℕ → Outcome
unfolding tail_outcome truncated and_then view
head_outcome at ws b ts = and_then (tail_outcome at ws b ts) (λ t. done (truncated at (held ws b)))

-- what `split_off` answers: the records of head and tail, or why not and the old record
abbrev pub Split : Type 0
Split = Result (Bitmap × Bitmap) Refused

unfoldable pub split_answer : Outcome → Outcome → Bitmap → Split
split_answer (refused e) t b = refusing b e
split_answer (done h) (refused e) b = refusing b e
split_answer (done h) (done t) b = Ok (with_count b h.count, with_count no_words t.count)

-- of an answer its number, 0 for done, the head's record and the tail's count, 0 where it is refused
abbrev pub split_number : Split → ℕ
split_number (Ok halves) = 0
split_number (Err r) = number_of r.0

abbrev pub split_head : Split → Bitmap
split_head (Ok halves) = halves.0
split_head (Err r) = r.1

abbrev pub split_tail : Split → ℕ
split_tail (Ok halves) = halves.1.count
split_tail (Err r) = 0

-- a call that splits the bitmap b of the store ws at a bit: it answers r, leaves ws' and puts the tail into ts, which becomes ts'
pub record Splits (at : ℕ) (ws : List ℕ) (b : Bitmap) (ts : List ℕ) (r : Split) (ws' ts' : List ℕ) : Type 0 where
  pub answers : r ≡ split_answer (head_outcome at ws b ts) (tail_outcome at ws b ts) b
  pub head : ws' ≡ store (head_outcome at ws b ts) ws b.count
  pub tail : ts' ≡ store (tail_outcome at ws b ts) ts 0
