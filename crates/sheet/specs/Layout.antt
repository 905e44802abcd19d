-- Fields packed into one number, most significant bit first.
use Rattle.std.specs.Prelude.{ℕ, ◌+◌, ◌*◌, ◌^◌, ◌/◌, ◌%◌, ◌≤◌, Bool, true, false, ◌&&◌, List, [], ◌∷◌, leb}

-- a field: its bits, its least and its greatest value
pub record Field : Type 0 where
  pub width : ℕ
  pub least : ℕ
  pub most : ℕ

abbrev pub field : ℕ → ℕ → ℕ → Field
field w a z = record { width = w; least = a; most = z }

-- the bits of some fields
unfoldable pub widths : List Field → ℕ
widths [] = 0
widths (f ∷ fs) = f.width + widths fs

-- the number that the values make, the first field on top
unfoldable pub packed : List Field → List ℕ → ℕ
unfolding widths
packed [] vs = 0
packed (f ∷ fs) [] = 0
packed (f ∷ fs) (v ∷ vs) = v * 2 ^ widths fs + packed fs vs

-- the values in a number
unfoldable pub unpacked : List Field → ℕ → List ℕ
unfolding widths
unpacked [] x = []
unpacked (f ∷ fs) x = x / 2 ^ widths fs % 2 ^ f.width ∷ unpacked fs x

-- as many values as fields, each from the least to the greatest of its field
unfoldable pub in_range : List Field → List ℕ → Bool
in_range [] [] = true
in_range [] (v ∷ vs) = false
in_range (f ∷ fs) [] = false
in_range (f ∷ fs) (v ∷ vs) = leb f.least v && (leb v f.most && in_range fs vs)

abbrev pub InRange : List Field → List ℕ → Type 0
InRange [] [] = Unit {0}
InRange [] (v ∷ vs) = ⊥
InRange (f ∷ fs) [] = ⊥
InRange (f ∷ fs) (v ∷ vs) = (f.least ≤ v) × (v ≤ f.most) × InRange fs vs
