-- Fields packed into a number are unpacked as they were, and back.
use Prim.Native.Nat.{ℕ, ◌+◌, ◌*◌, ◌^◌, ◌/◌, ◌%◌, ◌<◌}
use mathlib.Core.Path.{◌≡◌, refl, sym, ap, ap₂, ◌∙◌, subst}
use mathlib.Core.Bool.{Bool, true, ◌&&◌}
use mathlib.Core.List.{List, [], ◌∷◌}
use native.Mathlib.Omega.{arith}
use native.Mathlib.Nat.{mod-eq_of_lt, mul_assoc, add_comm, add-mul-div_right, add-mul-mod_self_right}
use lib.Arith.{digits_lt}
use lib.Pow.{pow_pos, pow-add, high, mod-pow-add}
use lib.Dec.{leb, ltb}
use borrow.Author.Tests.{le-leb, leb-true, ltb-true}
use Rattle.word.proofs.Cases.{and-true, zero_one}
use Rattle.sheet.specs.Layout.{Field, widths, packed, unpacked, in_range, InRange}

-- as many values as fields, each in its bits
abbrev pub Sized : List Field → List ℕ → Type 0
Sized [] [] = Unit {0}
Sized [] (v ∷ vs) = ⊥
Sized (f ∷ fs) [] = ⊥
Sized (f ∷ fs) (v ∷ vs) = (v < 2 ^ f.width) × Sized fs vs

-- the greatest value of each field has its bits
abbrev pub Fits : List Field → Type 0
Fits [] = Unit {0}
Fits (f ∷ fs) = (f.most < 2 ^ f.width) × Fits fs

abbrev pub fitting_in : List Field → Bool
fitting_in [] = true
fitting_in (f ∷ fs) = ltb f.most (2 ^ f.width) && fitting_in fs

pub fitting-fits : (fs : List Field) → fitting_in fs ≡ true → Fits fs
fitting-fits [] h = tt
fitting-fits (f ∷ fs) h =
    let (a, b) = and-true (ltb f.most (2 ^ f.width)) (fitting_in fs) h in
    (ltb-true f.most (2 ^ f.width) a, fitting-fits fs b)

pub range_sized : (fs : List Field) (vs : List ℕ) → Fits fs → InRange fs vs → Sized fs vs
range_sized [] [] t h = tt
range_sized [] (v ∷ vs) t h = absurd h
range_sized (f ∷ fs) [] t h = absurd h
range_sized (f ∷ fs) (v ∷ vs) t h = (omega arith, range_sized fs vs t.1 h.2)

pub in_range_lem : (fs : List Field) (vs : List ℕ) → InRange fs vs → in_range fs vs ≡ true
unfolding in_range
in_range_lem [] [] h = refl
in_range_lem [] (v ∷ vs) h = absurd h
in_range_lem (f ∷ fs) [] h = absurd h
in_range_lem (f ∷ fs) (v ∷ vs) h = rw (le-leb f.least v h.0, le-leb v f.most h.1, in_range_lem fs vs h.2)

pub range_in : (fs : List Field) (vs : List ℕ) → in_range fs vs ≡ true → InRange fs vs
unfolding in_range
range_in [] [] h = tt
range_in [] (v ∷ vs) h = zero_one cc
range_in (f ∷ fs) [] h = zero_one cc
range_in (f ∷ fs) (v ∷ vs) h =
    let (a, b) = and-true (leb f.least v) (leb v f.most && in_range fs vs) h in
    let (c, d) = and-true (leb v f.most) (in_range fs vs) b in
    (leb-true f.least v a, leb-true v f.most c, range_in fs vs d)

pub packed_small : (fs : List Field) (vs : List ℕ) → Sized fs vs → packed fs vs < 2 ^ widths fs
unfolding packed
packed_small [] [] h = omega arith
packed_small [] (v ∷ vs) h = absurd h
packed_small (f ∷ fs) [] h = absurd h
packed_small (f ∷ fs) (v ∷ vs) h =
    subst (λ (x : ℕ). v * 2 ^ widths fs + packed fs vs < x) (sym (pow-add 2 f.width (widths fs))) (digits_lt h.0 (packed_small fs vs h.1))

-- what stands above the fields is no part of them
unpacked_above : (fs : List Field) (a x : ℕ) → unpacked fs (a * 2 ^ widths fs + x) ≡ unpacked fs x
unfolding unpacked
unpacked_above [] a x = refl
unpacked_above (f ∷ fs) a x =
    ap₂ (λ (v : ℕ) (l : List ℕ). v ∷ l)
    (ap (λ (y : ℕ). y / 2 ^ widths fs % 2 ^ f.width) (moved ∙ add_comm (a * 2 ^ f.width * 2 ^ widths fs) x)
    ∙ ap (λ (y : ℕ). y % 2 ^ f.width) (add-mul-div_right x (a * 2 ^ f.width) (pow_pos (widths fs)))
    ∙ add-mul-mod_self_right (x / 2 ^ widths fs) a (2 ^ f.width))
    (ap (unpacked fs) moved ∙ unpacked_above fs (a * 2 ^ f.width) x)
  where
    moved : a * 2 ^ (f.width + widths fs) + x ≡ a * 2 ^ f.width * 2 ^ widths fs + x
    moved = ap (λ (y : ℕ). y + x) (ap (λ (y : ℕ). a * y) (pow-add 2 f.width (widths fs)) ∙ sym (mul_assoc a (2 ^ f.width) (2 ^ widths fs)))

-- the round trip, and the other way round
pub unpacked-packed : (fs : List Field) (vs : List ℕ) → Sized fs vs → unpacked fs (packed fs vs) ≡ vs
unfolding unpacked packed
unpacked-packed [] [] h = refl
unpacked-packed [] (v ∷ vs) h = absurd h
unpacked-packed (f ∷ fs) [] h = absurd h
unpacked-packed (f ∷ fs) (v ∷ vs) h =
    ap₂ (λ (x : ℕ) (l : List ℕ). x ∷ l)
    (ap (λ (y : ℕ). y % 2 ^ f.width) (high v (widths fs) (packed_small fs vs h.1)) ∙ mod-eq_of_lt h.0)
    (unpacked_above fs v (packed fs vs) ∙ unpacked-packed fs vs h.1)

pub packed-unpacked : (fs : List Field) (x : ℕ) → packed fs (unpacked fs x) ≡ x % 2 ^ widths fs
unfolding unpacked packed
packed-unpacked [] x = omega arith
packed-unpacked (f ∷ fs) x =
    ap (λ (y : ℕ). x / 2 ^ widths fs % 2 ^ f.width * 2 ^ widths fs + y) (packed-unpacked fs x) ∙ sym (mod-pow-add x f.width (widths fs))
