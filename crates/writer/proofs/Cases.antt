-- Document 01's sheet, by a start and three additions; the byte past it stays.
use Prim.Native.Nat.{ℕ}
use mathlib.Core.Path.{◌≡◌, refl}
use mathlib.Core.Bool.{true}
use mathlib.Core.List.{List, [], ◌∷◌}
use Rattle.sheet.specs.declared.Fields.{Fields}
use Rattle.plain.specs.Writer.{duty, remark, Left, started, added}
use Rattle.std.specs.Prelude.{Ok}

abbrev nines : List ℕ
nines =
    9 ∷ 9 ∷ 9 ∷ 9 ∷ 9 ∷ 9 ∷ 9 ∷ 9 ∷ 9 ∷ 9 ∷ 9 ∷ 9 ∷ 9 ∷ 9 ∷ 9 ∷ 9 ∷ 9 ∷ 9 ∷ 9 ∷ 9 ∷ 9 ∷ 9 ∷ 9 ∷ 9 ∷ 9 ∷ 9 ∷ 9 ∷ 9 ∷ 9 ∷ 9 ∷ 9 ∷ 9 ∷ 9 ∷ []

abbrev fields : ℕ → ℕ → Fields
fields p k = record { p = p; k = k; flag = true; width = 65; value = 0; size = 0 }

-- paragraphs 4 to 6 set, the remark `hi`, and a gap of 2 opened at 5
abbrev example : Left
example =
    let first = added (started nines).buffer 4 (duty 3 (fields 4 3)) in
    let second = added first.buffer 16 (remark 1 (0x68 ∷ 0x69 ∷ [])) in
    added second.buffer 21 (duty 10 (fields 5 2))

as_printed : example
    ≡ record {
      answer = Ok 32;
      buffer =
          0x4E ∷ 0x53 ∷ 0x00 ∷ 0x03 ∷ 0x83 ∷ 0x00 ∷ 0x09 ∷ 0x80 ∷ 0x00 ∷ 0x00 ∷ 0x02 ∷ 0x00 ∷ 0x00 ∷ 0x00 ∷ 0x01 ∷ 0x80 ∷ 0x01 ∷ 0x00 ∷ 0x02 ∷ 0x68 ∷ 0x69 ∷ 0x8A
          ∷ 0x00 ∷ 0x08 ∷ 0x00 ∷ 0x00 ∷ 0x00 ∷ 0x05 ∷ 0x00 ∷ 0x00 ∷ 0x00 ∷ 0x02 ∷ 9 ∷ [];
    }
unfolding started added
as_printed = refl
