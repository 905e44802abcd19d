-- The fourteen numbers of document 01 and those of later requests, and what calls answer, told in numbers.
use Rattle.std.specs.Prelude.{ℕ, Bool, Option, Some, None, Result, Ok, Err, ⊤}
use Rattle.word.specs.Sets.{val}
use Rattle.storage.specs.declared.Bitmap.{Bitmap}
use Rattle.storage.specs.declared.Refusal.{Refusal}
use Rattle.storage.specs.declared.Refused.{Refused}
use Rattle.storage.specs.declared.Refusal.TheVariants.{StoreTooLong, CountOverStore, WidthOver, IndexOver, PastLength, NoSpace, NotList}
use Rattle.storage.specs.declared.Refusal.TheVariants.{NotAscii, NotSheet, CutRecord, BytesRemain, BadPayload, NewerKind, NoEdition, BadStyle, NumberOver}

-- the numbers are 1 to this one
abbrev pub last_number : ℕ
last_number = 16

abbrev pub number_of : Refusal → ℕ
number_of StoreTooLong = 1
number_of CountOverStore = 2
number_of WidthOver = 3
number_of IndexOver = 4
number_of PastLength = 5
number_of NoSpace = 6
number_of NotList = 7
number_of NotAscii = 8
number_of NotSheet = 9
number_of CutRecord = 10
number_of BytesRemain = 11
number_of BadPayload = 12
number_of NewerKind = 13
number_of NoEdition = 14
number_of BadStyle = 15
number_of NumberOver = 16

-- what calls answer, or why they are refused: a place that is searched for, a count or a field, a test; of two stores that they pass
abbrev pub Found : Type 0
Found = Result (Option ℕ) Refusal

abbrev pub Amount : Type 0
Amount = Result ℕ Refusal

abbrev pub Truth : Type 0
Truth = Result Bool Refusal

-- a change answers the new record, or why not and the old one; a guard has nothing to answer where it lets pass
abbrev pub Change : Type 0
Change = Result Bitmap Refused

abbrev pub Guard : Type 0
Guard = Result ⊤ Refused

abbrev pub passing : Guard
passing = Ok tt

-- a refusal, and the record as it was
abbrev pub refusing : {A : Type 0} → Bitmap → Refusal → Result A Refused
refusing b e = Err (e, b)

-- of each answer its number, 0 for done, and its value, 0 where it is refused
abbrev pub answer_number : {A : Type 0} → Result A Refusal → ℕ
answer_number (Ok a) = 0
answer_number (Err e) = number_of e

-- 1 where something is found
abbrev pub found_flag : Found → ℕ
found_flag (Ok (Some p)) = 1
found_flag (Ok None) = 0
found_flag (Err e) = 0

abbrev pub found_value : Found → ℕ
found_value (Ok (Some p)) = p
found_value (Ok None) = 0
found_value (Err e) = 0

abbrev pub amount_value : Amount → ℕ
amount_value (Ok n) = n
amount_value (Err e) = 0

abbrev pub truth_value : Truth → ℕ
truth_value (Ok t) = val t
truth_value (Err e) = 0

-- of a change or a guard its number, and the record of a change
abbrev pub change_number : {A : Type 0} → Result A Refused → ℕ
change_number (Ok a) = 0
change_number (Err r) = number_of r.0

abbrev pub change_record : Change → Bitmap
change_record (Ok b) = b
change_record (Err r) = r.1
