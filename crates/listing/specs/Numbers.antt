-- Hexadecimal numbers, with the digits 0 to 9 and a to f.
use Rattle.std.specs.Prelude.{ℕ, ◌+◌, ◌-◌, ◌*◌, ◌^◌, Bool, ◌&&◌, ◌||◌, leb, ltb, if◌then◌else◌, List, [], ◌∷◌, Option, Some, None}

abbrev pub is_digit : ℕ → Bool
is_digit c = (leb 48 c && leb c 57) || (leb 97 c && leb c 102)

abbrev pub digit_value : ℕ → ℕ
digit_value c = if leb c 57 then c - 48 else (c - 87)

abbrev pub digit_of : ℕ → Option ℕ
digit_of c = if is_digit c then Some (digit_value c) else None

-- x with these digits behind its own, where all are digits and the number stays below 2^64
abbrev pub number_from : ℕ → List ℕ → Option ℕ
number_from x [] = Some x
number_from x (c ∷ cs) = if is_digit c && ltb (x * 16 + digit_value c) (2 ^ 64) then number_from (x * 16 + digit_value c) cs else None
