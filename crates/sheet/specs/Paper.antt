-- 01's editions and its table of kinds, typed from the paper and by themselves, and what the table says of a payload, digit by
-- digit. Nothing is defined by this: Promises says what agrees with it.
use Rattle.std.specs.Prelude.{ℕ, zero, suc, ◌-◌, ◌^◌, ◌/◌, ◌%◌, ◌≤◌, ◌≡◌, Bool, List, [], ◌∷◌, ◌++◌, ◌⊎◌, get_or}
use Rattle.word.specs.Sets.{val}
use Rattle.word.specs.Places.{is_one}
use Rattle.sheet.specs.declared.Fields.{Fields}
use Rattle.sheet.specs.declared.Edit.{Edit}
use Rattle.sheet.specs.declared.Edit.TheVariants.{Set, Unset, SetRegion, SetField, Shift, Rotate, Resize, Reverse, ToggleRegion, Open, Close}

-- the editions: 14 is any other
abbrev pub IsEdition : ℕ → Type 0
IsEdition n = (n ≡ 1) ⊎ (n ≡ 2)

-- a field of so many bits, with its value, and the least and the greatest that it may have
pub record Cell : Type 0 where
  pub bits : ℕ
  pub least : ℕ
  pub most : ℕ
  pub value : ℕ

abbrev pub cell_to : ℕ → ℕ → ℕ → Cell
cell_to m w v = record { bits = w; least = 0; most = m; value = v }

-- p and k have 32 bits
abbrev pub of32 : ℕ → Cell
of32 v = cell_to 4_294_967_295 32 v

abbrev pub of_bit : Bool → Cell
of_bit t = cell_to 1 1 (val t)

pub record Line : Type 0 where
  pub kind : ℕ
  pub fields : List Cell
  pub bytes : ℕ
  pub edition : ℕ

abbrev pub line : ℕ → List Cell → ℕ → ℕ → Line
line k fs b n = record { kind = k; fields = fs; bytes = b; edition = n }

-- kind, fields, bytes, edition
unfoldable pub paper_line : Edit → Line
paper_line (Set p) = line 1 (of32 p ∷ []) 4 1
paper_line (Unset p) = line 2 (of32 p ∷ []) 4 1
paper_line (SetRegion value p k) = line 3 (of_bit value ∷ of32 p ∷ of32 k ∷ []) 9 1
paper_line (SetField p width value) = line 4 (of32 p ∷ cell_to 64 7 width ∷ cell_to (2 ^ 64 - 1) 64 value ∷ []) 13 1
paper_line (Shift right k) = line 5 (of_bit right ∷ of32 k ∷ []) 5 1
paper_line (Rotate right k) = line 6 (of_bit right ∷ of32 k ∷ []) 5 1
paper_line (Resize n) = line 7 (cell_to 4_294_967_296 33 n ∷ []) 5 1
paper_line Reverse = line 8 [] 0 1
paper_line (ToggleRegion p k) = line 9 (of32 p ∷ of32 k ∷ []) 8 2
paper_line (Open p k) = line 10 (of32 p ∷ of32 k ∷ []) 8 2
paper_line (Close p k) = line 11 (of32 p ∷ of32 k ∷ []) 8 2

abbrev pub values : List Cell → List ℕ
values [] = []
values (c ∷ cs) = c.value ∷ values cs

-- what an addition is given for the fields of a kind, from kind 1 on; the flag is a region's value or a direction
abbrev pub columns : List (Fields → List ℕ)
columns =
    (λ f. f.p ∷ [])
    ∷ (λ f. f.p ∷ [])
    ∷ (λ f. val f.flag ∷ f.p ∷ f.k ∷ [])
    ∷ (λ f. f.p ∷ f.width ∷ f.value ∷ [])
    ∷ (λ f. val f.flag ∷ f.k ∷ [])
    ∷ (λ f. val f.flag ∷ f.k ∷ [])
    ∷ (λ f. f.size ∷ [])
    ∷ (λ f. [])
    ∷ (λ f. f.p ∷ f.k ∷ [])
    ∷ (λ f. f.p ∷ f.k ∷ [])
    ∷ (λ f. f.p ∷ f.k ∷ [])
    ∷ []

unfoldable pub given : ℕ → Fields → List ℕ
given zero f = []
given (suc k) f = get_or columns k (λ f. []) f

-- every value is one that its field may have
abbrev pub Allowed : List Cell → Type 0
Allowed [] = Unit {0}
Allowed (c ∷ cs) = (c.least ≤ c.value) × (c.value ≤ c.most) × Allowed cs

-- the w binary digits of a number, most significant first
unfoldable pub digits : ℕ → ℕ → List Bool
digits zero x = []
digits (suc w) x = is_one (x / 2 ^ w % 2) ∷ digits w x

-- of fields in order, and of bytes
unfoldable pub cell_digits : List Cell → List Bool
unfolding digits
cell_digits [] = []
cell_digits (c ∷ cs) = digits c.bits c.value ++ cell_digits cs

unfoldable pub byte_digits : List ℕ → List Bool
unfolding digits
byte_digits [] = []
byte_digits (b ∷ bs) = digits 8 b ++ byte_digits bs
