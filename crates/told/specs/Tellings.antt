-- What a call answers, as four numbers: its number; a tag, 0 without a value, 1 with one, 2 where the call may have changed its store; the value, of a changing call the word count; a second value.
use Rattle.std.specs.Prelude.{ℕ, ◌≡◌, Option, Result, Ok, Err}
use Rattle.storage.specs.Refusals.{answer_number, found_flag, found_value, change_number, amount_value, truth_value, change_record}
use Rattle.arch.specs.Scans.{word_flag, word_index, word_there}
use Rattle.shapes.specs.Shapes.{split_number, split_head, split_tail}
use Rattle.told.specs.declared.Told.{Told}
use Rattle.storage.specs.declared.Refusal.{Refusal}
use Rattle.storage.specs.Refusals.{Found, Amount, Truth, Change, Guard}
use Rattle.shapes.specs.Shapes.{Split}

-- r is t, number by number
pub record SameNumbers (r t : Told) : Type 0 where
  pub number : r.number ≡ t.number
  pub tag : r.tag ≡ t.tag
  pub value : r.value ≡ t.value
  pub also : r.also ≡ t.also

-- the number n, the tag t, the value v and the second value a
abbrev pub four : ℕ → ℕ → ℕ → ℕ → Told
four n t v a = record { number = n; tag = t; value = v; also = a }

abbrev pub found_told : Found → Told
found_told a = four (answer_number a) (found_flag a) (found_value a) 0

-- whether there is a value
abbrev pub answer_tag : {A : Type 0} → Result A Refusal → ℕ
answer_tag (Ok a) = 1
answer_tag (Err e) = 0

abbrev pub amount_told : Amount → Told
amount_told a = four (answer_number a) (answer_tag a) (amount_value a) 0

abbrev pub truth_told : Truth → Told
truth_told a = four (answer_number a) (answer_tag a) (truth_value a) 0

abbrev pub change_tag : Change → ℕ
change_tag (Ok b) = 2
change_tag (Err e) = 0

-- the word count that is returned, done or refused
abbrev pub change_told : Change → Told
change_told a = four (change_number a) (change_tag a) (change_record a).count 0

abbrev pub split_tag : Split → ℕ
split_tag (Ok (h, t)) = 2
split_tag (Err e) = 0

-- `split_off`: the word counts of head and tail
abbrev pub split_told : Split → Told
split_told a = four (split_number a) (split_tag a) (split_head a).count (split_tail a)

-- a word that is found: its index, and the word
abbrev pub word_told : Option (ℕ × ℕ) → Told
word_told a = four 0 (word_flag a) (word_index a) (word_there a)

abbrev pub guard_told : Guard → Told
guard_told a = four (change_number a) 0 0 0
