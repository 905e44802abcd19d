-- The starred cases of 01, "Small books to try", the sentences behind them, and cases of the requests of 02: tables of what is asked and what must come out.
-- proofs/Starred: every row holds.
use Rattle.std.specs.Prelude.{ℕ, zero, suc, ◌+◌, ◌/◌, ◌%◌, ◌≡◌, Bool, true, false, List, [], ◌∷◌, ◌++◌, length, take, replicate, Ok, Err}
use Rattle.storage.specs.Refusals.{change_number, change_record, answer_number, found_flag, found_value, amount_value, truth_value}
use Rattle.storage.specs.Stores.{no_words, reading, reading_both, Changes, bitmap_of}
use Rattle.storage.specs.declared.Bitmap.{Bitmap}
use Rattle.slice.specs.Slices.{equal, field_at}
use Rattle.scans.specs.Searches.{next_clear as clear_from}
use Rattle.bitwise.specs.Bitwise.{selected}
use Rattle.shifts.specs.Shifts.{rotating_right}
use Rattle.bitmaps.specs.Bitmaps.{flipping_bit}
use Rattle.shapes.specs.Shapes.{split_number, split_head, split_tail, Splits}
use Rattle.style.specs.Styles.{plain_style}
use Rattle.style.specs.declared.Style.{Style}
use Rattle.text.specs.Readings.{reading_list}
use Rattle.print.specs.Texts.{Prints}
use Rattle.register.specs.Register.{Registers}
use Rattle.sheet.specs.Reads.{reading_number, reading_record, reading_count, Reads}
use Rattle.storage.specs.Refusals.{Found, Amount, Truth, Change}
use Rattle.sheet.specs.Reads.{Reading}
use Rattle.shapes.specs.Shapes.{Split}

-- what is asked; a bitmap's words are all of its store, but in `xori`, where it is the first of them
pub data Question : Type 0 where
  from_list : (text : List ℕ) (capacity : ℕ) → Question
  next_clear : (words : List ℕ) (i : ℕ) → Question
  first_clear : (words : List ℕ) → Question
  get_field : (words : List ℕ) (i width : ℕ) → Question
  select : (words : List ℕ) (r : ℕ) → Question
  eq : (words others : List ℕ) → Question
  rotate_right : (words : List ℕ) (k : ℕ) → Question
  xori : (words : List ℕ) (count i : ℕ) → Question
  split_off : (words : List ℕ) (at capacity : ℕ) → Question
  -- in a style: first number, joiner, whether there is a blank, shortest run; into an empty bitmap, and from all words of a store
  from_list_in : Style → (text : List ℕ) (capacity : ℕ) → Question
  write_list_in : Style → (words : List ℕ) (size : ℕ) → Question
  -- from all words of a store
  write_register : (words : List ℕ) (size : ℕ) → Question
  -- from an empty bitmap
  read : (edition : ℕ) (sheet : List ℕ) (capacity : ℕ) → Question

abbrev pub zeros : ℕ → List ℕ
zeros zero = []
zeros (suc n) = 0 ∷ zeros n

-- the record of all words of a store
abbrev pub whole : List ℕ → Bitmap
whole ws = bitmap_of (length ws)

-- the number, the count, and every word of the store
abbrev pub changed : Change → List ℕ → List ℕ
changed r ws = change_number r ∷ (change_record r).count ∷ ws

-- the number, 1 where something was found, and the place
abbrev pub found : Found → List ℕ
found r = answer_number r ∷ found_flag r ∷ found_value r ∷ []

abbrev pub counted : Amount → List ℕ
counted r = answer_number r ∷ amount_value r ∷ []

abbrev pub tested : Truth → List ℕ
tested r = answer_number r ∷ truth_value r ∷ []

-- the number, the head's count and every word of its store, the tail's count and every word of its store
abbrev pub parted : Split → List ℕ → List ℕ → List ℕ
parted r ws ts = split_number r ∷ (split_head r).count ∷ (ws ++ (split_tail r ∷ ts))

-- the number, the record, the word count, and the bytes of the list that was printed
abbrev pub sheeted : Reading → Amount → List ℕ → List ℕ
sheeted r p bytes = reading_number r ∷ reading_record r ∷ reading_count r ∷ take (amount_value p) bytes

-- the number, the text's length, and every byte of the buffer
abbrev pub listed : Amount → List ℕ → List ℕ
listed r bytes = answer_number r ∷ amount_value r ∷ bytes

-- whatever meets the call's contract comes out so; the result of a sheet is printed into sixteen bytes
abbrev pub Comes : Question → List ℕ → Type 0
Comes (from_list text c) out = (r : Change) (ws : List ℕ) → Changes (reading_list plain_style text) (zeros c) no_words r ws → changed r ws ≡ out
Comes (from_list_in y text c) out = (r : Change) (ws : List ℕ) → Changes (reading_list y text) (zeros c) no_words r ws → changed r ws ≡ out
Comes (write_list_in y ws n) out = (r : Amount) (bytes : List ℕ) → Prints y ws (whole ws) (zeros n) r bytes → listed r bytes ≡ out
Comes (write_register ws n) out = (r : Amount) (bytes : List ℕ) → Registers ws (whole ws) (zeros n) r bytes → listed r bytes ≡ out
Comes (next_clear ws i) out = (r : Amount) → r ≡ reading ws (whole ws) Err (λ s. Ok (clear_from s i)) → counted r ≡ out
Comes (first_clear ws) out = (r : Amount) → r ≡ reading ws (whole ws) Err (λ s. Ok (clear_from s 0)) → counted r ≡ out
Comes (get_field ws i width) out = (r : Amount) → r ≡ reading ws (whole ws) Err (field_at i width) → counted r ≡ out
Comes (select ws k) out = (r : Found) → r ≡ reading ws (whole ws) Err (selected k) → found r ≡ out
Comes (eq ws os) out =
    (r : Truth) → r ≡ reading_both ws (whole ws) os (whole os) Err (λ s t. Ok (equal s t)) → tested r ≡ out
Comes (rotate_right ws k) out =
    (r : Change) (ws' : List ℕ) → Changes (rotating_right k) ws (whole ws) r ws' → changed r ws' ≡ out
Comes (xori ws n i) out = (r : Change) (ws' : List ℕ) → Changes (flipping_bit i) ws (bitmap_of n) r ws' → changed r ws' ≡ out
Comes (split_off ws at c) out =
    (r : Split) (ws' ts : List ℕ) → Splits at ws (whole ws) (zeros c) r ws' ts → parted r ws' ts ≡ out
Comes (read e sheet c) out =
    (r : Reading) (ws : List ℕ) (p : Amount) (bytes : List ℕ)
    → Reads e sheet [] no_words (zeros c) r ws → Prints plain_style ws (bitmap_of (reading_count r)) (zeros 16) p bytes → sheeted r p bytes ≡ out

pub record Sample : Type 0 where
  pub asked : Question
  pub out : List ℕ

abbrev pub sample : Question → List ℕ → Sample
sample a o = record { asked = a; out = o }

-- the sheet of 01
abbrev pub sheet : List ℕ
sheet =
    0x4e ∷ 0x53 ∷ 0x00 ∷ 0x03 ∷ 0x83 ∷ 0x00 ∷ 0x09 ∷ 0x80 ∷ 0x00 ∷ 0x00 ∷ 0x02 ∷ 0x00 ∷ 0x00 ∷ 0x00 ∷ 0x01 ∷ 0x80 ∷ 0x01 ∷ 0x00 ∷ 0x02 ∷ 0x68
    ∷ 0x69 ∷ 0x8a ∷ 0x00 ∷ 0x08 ∷ 0x00 ∷ 0x00 ∷ 0x00 ∷ 0x05 ∷ 0x00 ∷ 0x00 ∷ 0x00 ∷ 0x02 ∷ []

abbrev pub starred : List Sample
starred =
    -- the empty text: 7
    sample (from_list [] 2) (7 ∷ 0 ∷ 0 ∷ 0 ∷ [])
    -- the text `,`: 7
    ∷ sample (from_list (44 ∷ []) 2) (7 ∷ 0 ∷ 0 ∷ 0 ∷ [])
    -- the text `1,,`: 7
    ∷ sample (from_list (49 ∷ 44 ∷ 44 ∷ []) 2) (7 ∷ 0 ∷ 0 ∷ 0 ∷ [])
    -- the text `5-3`: 7
    ∷ sample (from_list (53 ∷ 45 ∷ 51 ∷ []) 2) (7 ∷ 0 ∷ 0 ∷ 0 ∷ [])
    -- the text `4294967296`: 16, by T-02
    ∷ sample (from_list (52 ∷ 50 ∷ 57 ∷ 52 ∷ 57 ∷ 54 ∷ 55 ∷ 50 ∷ 57 ∷ 54 ∷ []) 2) (16 ∷ 0 ∷ 0 ∷ 0 ∷ [])
    -- `1,` reads {1}
    ∷ sample (from_list (49 ∷ 44 ∷ []) 2) (0 ∷ 1 ∷ 2 ∷ 0 ∷ [])
    -- ` 1 - 3 , 2` reads {1, 2, 3}
    ∷ sample (from_list (32 ∷ 49 ∷ 32 ∷ 45 ∷ 32 ∷ 51 ∷ 32 ∷ 44 ∷ 32 ∷ 50 ∷ []) 2) (0 ∷ 1 ∷ 14 ∷ 0 ∷ [])
    -- `4294967295` into two words: 6
    ∷ sample (from_list (52 ∷ 50 ∷ 57 ∷ 52 ∷ 57 ∷ 54 ∷ 55 ∷ 50 ∷ 57 ∷ 53 ∷ []) 2) (6 ∷ 0 ∷ 0 ∷ 0 ∷ [])
    -- bytes 31 C2 A0 (hexadecimal): 8
    ∷ sample (from_list (0x31 ∷ 0xc2 ∷ 0xa0 ∷ []) 2) (8 ∷ 0 ∷ 0 ∷ 0 ∷ [])
    -- one word: next_clear(200) is 200
    ∷ sample (next_clear (5 ∷ []) 200) (0 ∷ 200 ∷ [])
    -- all ones: first_clear is 64
    ∷ sample (first_clear (0xffff_ffff_ffff_ffff ∷ [])) (0 ∷ 64 ∷ [])
    -- bits 60 to 63: get_field(60, 8) is 15
    ∷ sample (get_field (0xf000_0000_0000_0000 ∷ []) 60 8) (0 ∷ 15 ∷ [])
    -- width 64 is read
    ∷ sample (get_field (0xf000_0000_0000_0000 ∷ []) 0 64) (0 ∷ 0xf000_0000_0000_0000 ∷ [])
    -- 65 gets 3
    ∷ sample (get_field (0xf000_0000_0000_0000 ∷ []) 0 65) (3 ∷ 0 ∷ [])
    -- bits 1 and 4: select(1) is 4, select(2) none
    ∷ sample (select (18 ∷ []) 1) (0 ∷ 1 ∷ 4 ∷ [])
    ∷ sample (select (18 ∷ []) 2) (0 ∷ 0 ∷ 0 ∷ [])
    -- bits 3, 69, 70, 100 split at 70: {3, 69} and {0, 30}
    ∷ sample (split_off (8 ∷ 68719476832 ∷ []) 70 2) (0 ∷ 2 ∷ 8 ∷ 32 ∷ 1 ∷ 1073741825 ∷ 0 ∷ [])
    -- [1] and [1, 0] are equal, yet rotating right by 1 puts the bit at 63 and at 127
    ∷ sample (eq (1 ∷ []) (1 ∷ 0 ∷ [])) (0 ∷ 1 ∷ [])
    ∷ sample (rotate_right (1 ∷ []) 1) (0 ∷ 1 ∷ 0x8000_0000_0000_0000 ∷ [])
    ∷ sample (rotate_right (1 ∷ 0 ∷ []) 1) (0 ∷ 2 ∷ 0 ∷ 0x8000_0000_0000_0000 ∷ [])
    -- xori(130) twice on [1]: three words, then [1]
    ∷ sample (xori (1 ∷ 7 ∷ 7 ∷ 7 ∷ []) 1 130) (0 ∷ 3 ∷ 1 ∷ 0 ∷ 4 ∷ 7 ∷ [])
    ∷ sample (xori (1 ∷ 0 ∷ 4 ∷ 7 ∷ []) 3 130) (0 ∷ 1 ∷ 1 ∷ 0 ∷ 0 ∷ 7 ∷ [])
    -- the sheet, in both editions: 1 13 3 0, and 2 0 3 1 4, 7-8
    ∷ sample (read 1 sheet 128) (13 ∷ 3 ∷ 0 ∷ [])
    ∷ sample (read 2 sheet 128) (0 ∷ 3 ∷ 1 ∷ 52 ∷ 44 ∷ 32 ∷ 55 ∷ 45 ∷ 56 ∷ [])
    ∷ []

abbrev pub style : ℕ → ℕ → Bool → ℕ → Style
style f j b k = record { first = f; joiner = j; blank = b; shortest = k }

-- T-01
abbrev pub styled : List Sample
styled =
    -- {4, 5} with shortest 3 is `4, 5`, with 2 `4-5`, without a blank `4,5`
    sample (write_list_in (style 0 45 true 3) (48 ∷ []) 5) (0 ∷ 4 ∷ 52 ∷ 44 ∷ 32 ∷ 53 ∷ 0 ∷ [])
    ∷ sample (write_list_in (style 0 45 true 2) (48 ∷ []) 5) (0 ∷ 3 ∷ 52 ∷ 45 ∷ 53 ∷ 0 ∷ 0 ∷ [])
    ∷ sample (write_list_in (style 0 45 false 3) (48 ∷ []) 5) (0 ∷ 3 ∷ 52 ∷ 44 ∷ 53 ∷ 0 ∷ 0 ∷ [])
    -- from 1, a colon, shortest 3: {0, 1, 2, 4, 5} is `1:3, 5, 6`, in nine bytes and not in eight
    ∷ sample (write_list_in (style 1 58 true 3) (55 ∷ []) 9) (0 ∷ 9 ∷ 49 ∷ 58 ∷ 51 ∷ 44 ∷ 32 ∷ 53 ∷ 44 ∷ 32 ∷ 54 ∷ [])
    ∷ sample (write_list_in (style 1 58 true 3) (55 ∷ []) 8) (6 ∷ 0 ∷ zeros 8)
    -- what is read depends on first and joiner only: shortest 3 reads `4-5`, a style without a blank `1, 2`; a colon style gets `1-2`: 7
    ∷ sample (from_list_in (style 0 45 true 3) (52 ∷ 45 ∷ 53 ∷ []) 2) (0 ∷ 1 ∷ 48 ∷ 0 ∷ [])
    ∷ sample (from_list_in (style 0 45 false 2) (49 ∷ 44 ∷ 32 ∷ 50 ∷ []) 2) (0 ∷ 1 ∷ 6 ∷ 0 ∷ [])
    ∷ sample (from_list_in (style 0 58 true 2) (49 ∷ 45 ∷ 50 ∷ []) 2) (7 ∷ 0 ∷ 0 ∷ 0 ∷ [])
    -- first 1,000: `0999` is 7, `01000` reads {0}, `4294968295` into two words is 6, `4294968296` is 16
    ∷ sample (from_list_in (style 1_000 45 true 2) (48 ∷ 57 ∷ 57 ∷ 57 ∷ []) 2) (7 ∷ 0 ∷ 0 ∷ 0 ∷ [])
    ∷ sample (from_list_in (style 1_000 45 true 2) (48 ∷ 49 ∷ 48 ∷ 48 ∷ 48 ∷ []) 2) (0 ∷ 1 ∷ 1 ∷ 0 ∷ [])
    ∷ sample (from_list_in (style 1_000 45 true 2) (52 ∷ 50 ∷ 57 ∷ 52 ∷ 57 ∷ 54 ∷ 56 ∷ 50 ∷ 57 ∷ 53 ∷ []) 2) (6 ∷ 0 ∷ 0 ∷ 0 ∷ [])
    ∷ sample (from_list_in (style 1_000 45 true 2) (52 ∷ 50 ∷ 57 ∷ 52 ∷ 57 ∷ 54 ∷ 56 ∷ 50 ∷ 57 ∷ 54 ∷ []) 2) (16 ∷ 0 ∷ 0 ∷ 0 ∷ [])
    -- 15: a digit joins, and the text is FF; first 2^64 - 1; a joiner of 256 + 45, and there is nothing to print; shortest 1 and no byte lent
    ∷ sample (from_list_in (style 0 48 true 2) (0xff ∷ []) 2) (15 ∷ 0 ∷ 0 ∷ 0 ∷ [])
    ∷ sample (from_list_in (style 0xffff_ffff_ffff_ffff 45 true 2) (49 ∷ []) 2) (15 ∷ 0 ∷ 0 ∷ 0 ∷ [])
    ∷ sample (write_list_in (style 0 301 true 2) (0 ∷ []) 1) (15 ∷ 0 ∷ 0 ∷ [])
    ∷ sample (write_list_in (style 0 45 true 1) (48 ∷ []) 0) (15 ∷ 0 ∷ [])
    ∷ []

-- T-02, with 5, `-`, `x` and the comma as bytes 53, 45, 120 and 44

-- 4294967296, one above the limit
abbrev pub over : List ℕ
over = 52 ∷ 50 ∷ 57 ∷ 52 ∷ 57 ∷ 54 ∷ 55 ∷ 50 ∷ 57 ∷ 54 ∷ []

-- 99999999999
abbrev pub nines : List ℕ
nines = 57 ∷ 57 ∷ 57 ∷ 57 ∷ 57 ∷ 57 ∷ 57 ∷ 57 ∷ 57 ∷ 57 ∷ 57 ∷ []

-- a text into two words, refused with k
abbrev pub refusing : List ℕ → ℕ → Sample
refusing t k = sample (from_list t 2) (k ∷ 0 ∷ 0 ∷ 0 ∷ [])

abbrev pub faulted : List Sample
faulted =
    -- the whole number, blanks trimmed, is digits: then 16; a letter after it, or a blank in it: 7
    refusing (over ++ 32 ∷ []) 16
    ∷ refusing (32 ∷ over) 16
    ∷ refusing (over ++ 120 ∷ []) 7
    ∷ refusing (over ++ 32 ∷ 53 ∷ []) 7
    -- 18446744073709551621 is 2^64 + 5, and never {5}
    ∷ refusing (49 ∷ 56 ∷ 52 ∷ 52 ∷ 54 ∷ 55 ∷ 52 ∷ 52 ∷ 48 ∷ 55 ∷ 51 ∷ 55 ∷ 48 ∷ 57 ∷ 53 ∷ 53 ∷ 49 ∷ 54 ∷ 50 ∷ 49 ∷ []) 16
    -- the left number before the right one, whatever that is
    ∷ refusing (over ++ 45 ∷ []) 16
    ∷ refusing (over ++ 45 ∷ 120 ∷ []) 16
    ∷ refusing (over ++ 45 ∷ 49 ∷ []) 16
    ∷ refusing (120 ∷ 45 ∷ over) 7
    ∷ refusing (45 ∷ over) 7
    ∷ refusing (49 ∷ 45 ∷ over) 16
    ∷ refusing (49 ∷ 45 ∷ 32 ∷ over ++ 32 ∷ []) 16
    -- cut at the first joiner: `99999999999-5-6`, `5-99999999999-6`
    ∷ refusing (nines ++ 45 ∷ 53 ∷ 45 ∷ 54 ∷ []) 16
    ∷ refusing (53 ∷ 45 ∷ nines ++ 45 ∷ 54 ∷ []) 7
    -- the left number below the first, or the right one: first 10, `5-5000000000`, `5000000000-5`
    ∷ sample (from_list_in (style 10 45 true 2) (53 ∷ 45 ∷ 53 ∷ 48 ∷ 48 ∷ 48 ∷ 48 ∷ 48 ∷ 48 ∷ 48 ∷ 48 ∷ 48 ∷ []) 2) (7 ∷ 0 ∷ 0 ∷ 0 ∷ [])
    ∷ sample (from_list_in (style 10 45 true 2) (53 ∷ 48 ∷ 48 ∷ 48 ∷ 48 ∷ 48 ∷ 48 ∷ 48 ∷ 48 ∷ 48 ∷ 45 ∷ 53 ∷ []) 2) (16 ∷ 0 ∷ 0 ∷ 0 ∷ [])
    -- falling only where both are within the limit: `4294967297-4294967296`
    ∷ refusing (52 ∷ 50 ∷ 57 ∷ 52 ∷ 57 ∷ 54 ∷ 55 ∷ 50 ∷ 57 ∷ 55 ∷ 45 ∷ over) 16
    -- the first bad token decides: `4294967296,x`, `4294967296,,`, `1,4294967296,x`; `x,4294967296`, `1,,4294967296`, `5-3,4294967296`
    ∷ refusing (over ++ 44 ∷ 120 ∷ []) 16
    ∷ refusing (over ++ 44 ∷ 44 ∷ []) 16
    ∷ refusing (49 ∷ 44 ∷ over ++ 44 ∷ 120 ∷ []) 16
    ∷ refusing (120 ∷ 44 ∷ over) 7
    ∷ refusing (49 ∷ 44 ∷ 44 ∷ over) 7
    ∷ refusing (53 ∷ 45 ∷ 51 ∷ 44 ∷ over) 7
    -- 8 before, 6 after: a byte FF in a later token, and 4294967295, which has no space in two words
    ∷ refusing (over ++ 44 ∷ 0xff ∷ []) 8
    ∷ refusing (52 ∷ 50 ∷ 57 ∷ 52 ∷ 57 ∷ 54 ∷ 55 ∷ 50 ∷ 57 ∷ 53 ∷ 44 ∷ over) 16
    ∷ []

-- ---- T-03

-- n blanks
abbrev pub blanks : ℕ → List ℕ
blanks n = replicate n 32

-- n blank lines
abbrev pub unused : ℕ → List ℕ
unused zero = []
unused (suc n) = blanks 72 ++ 10 ∷ unused n

-- a line of three digits, each the last byte of its twelve
abbrev pub three : ℕ → ℕ → ℕ → List ℕ
three a b c = blanks 11 ++ a ∷ (blanks 11 ++ b ∷ (blanks 11 ++ c ∷ (blanks 36 ++ 10 ∷ [])))

-- a foot: two digits, and a number of two
abbrev pub foot : ℕ → ℕ → ℕ → ℕ → List ℕ
foot a b c d = blanks 11 ++ a ∷ (blanks 11 ++ b ∷ (blanks 10 ++ c ∷ d ∷ (blanks 36 ++ 10 ∷ [])))

-- the lines of n bits that stand alone, the first is k, from 10 to 99, and each is two above the last
abbrev pub lone : ℕ → ℕ → List ℕ
lone zero k = []
lone (suc n) k =
    let d = 48 + k / 10 in
    let e = 48 + k % 10 in
    blanks 10 ++ d ∷ e ∷ (blanks 10 ++ d ∷ e ∷ (blanks 11 ++ 49 ∷ (blanks 36 ++ 10 ∷ lone n (k + 2))))

-- those of the 49 even numbers from 0 to 96
abbrev pub evens : List ℕ
evens = three 48 48 49 ++ (three 50 50 49 ++ (three 52 52 49 ++ (three 54 54 49 ++ (three 56 56 49 ++ lone 44 10))))

abbrev pub registered : List Sample
registered =
    -- no bit: 49 blank lines, and 1, 1, 0
    sample (write_register (0 ∷ []) 3650) (0 ∷ 3650 ∷ (unused 49 ++ three 49 49 48))
    -- no word, and a byte past the text, which stays
    ∷ sample (write_register [] 3651) (0 ∷ 3650 ∷ (unused 49 ++ (three 49 49 48 ++ 0 ∷ [])))
    -- {7} is 7, 7, 1
    ∷ sample (write_register (0x80 ∷ []) 3650) (0 ∷ 3650 ∷ (three 55 55 49 ++ (unused 48 ++ three 49 49 49)))
    -- a byte short: 6, and no byte is touched
    ∷ sample (write_register (0x80 ∷ []) 3649) (6 ∷ 0 ∷ zeros 3649)
    -- {1, 2, 3, 5}, with a zero word last: a run is one line
    ∷ sample (write_register (0x2e ∷ 0 ∷ []) 3650) (0 ∷ 3650 ∷ (three 49 51 51 ++ (three 53 53 49 ++ (unused 47 ++ three 49 49 52))))
    -- {63, 64}: a word's edge cuts no run
    ∷ sample (write_register (0x8000_0000_0000_0000 ∷ 1 ∷ []) 3650)
    (0 ∷ 3650 ∷ (blanks 10 ++ 54 ∷ 51 ∷ (blanks 10 ++ 54 ∷ 52 ∷ (blanks 11 ++ 50 ∷ (blanks 36 ++ 10 ∷ (unused 48 ++ three 49 49 50))))))
    -- 49 runs: one page, and no blank line
    ∷ sample (write_register (0x5555_5555_5555_5555 ∷ 0x1_5555_5555 ∷ []) 3650) (0 ∷ 3650 ∷ (evens ++ foot 49 49 52 57))
    -- 50 runs: two pages, and both feet count all
    ∷ sample (write_register (0x5555_5555_5555_5555 ∷ 0x5_5555_5555 ∷ []) 7300)
    (0 ∷ 7300 ∷ (evens ++ (foot 49 50 53 48 ++ (lone 1 98 ++ (unused 48 ++ foot 50 50 53 48)))))
    -- which have no space on one
    ∷ sample (write_register (0x5555_5555_5555_5555 ∷ 0x5_5555_5555 ∷ []) 3650) (6 ∷ 0 ∷ zeros 3650)
    ∷ []

-- every row comes out as it says
abbrev pub Hold : List Sample → Type 0
Hold [] = Unit {0}
Hold (r ∷ rs) = Comes r.asked r.out × Hold rs

abbrev pub StarredHold : Type 0
StarredHold = Hold starred

abbrev pub StyledHold : Type 0
StyledHold = Hold styled

abbrev pub FaultedHold : Type 0
FaultedHold = Hold faulted

abbrev pub RegisteredHold : Type 0
RegisteredHold = Hold registered
