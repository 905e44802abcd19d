-- One step of a walk: the pair's 64 bits from a place up, of two words moved that far and joined.
use Rattle.std.proofs.Common.{◌≡◌, ℕ, ◌+◌, ◌-◌, ◌*◌, ◌/◌, ◌%◌, ◌^◌, ◌<◌, Bool, true, false, ◌&&◌, sym, refl, ap, ap₂, ◌∙◌, subst, mod-lt, pow_pos, lt-ltb, le-ltb, le-leb, arith}
use Rattle.std.proofs.lemmas.Nat.{xor_lt}
use Rattle.std.proofs.lemmas.Bool.{lt-leb}
use lib.Bits.{bit_xor}
use Rattle.word.specs.Sets.{choose, xorb}
use Rattle.word.specs.Places.{bit}
use Rattle.word.specs.Words.{funneled, pair_bit}
use Rattle.word.specs.Promises.{FromPlace}
use Rattle.word.proofs.Cases.{by_lt}
use Rattle.word.proofs.Places.{bit-xor, bit-shr, bit_past, bit-shl-mod, pack_is}
use Rattle.word.proofs.Words.{from_place}
use Rattle.shifts.specs.Steps.{stepped}

xor_false : (t : Bool) → xorb t false ≡ t
xor_false true = refl
xor_false false = refl

-- the word that two moves make by exclusive or, since they have no place in common
pub step_is : (w lo hi down up a b : ℕ) → lo < 2 ^ w → down + up ≡ w → a < 2 ^ w → a ≡ lo / 2 ^ down → b ≡ hi * 2 ^ up % 2 ^ w → bit_xor a b ≡ stepped w lo hi down
unfolding stepped pair_bit
step_is w lo hi down up a b h e ha ea eb =
    pack_is w (bit_xor a b) (λ j. pair_bit w lo hi (down + j))
    (xor_lt w a b ha (subst (λ (y : ℕ). y < 2 ^ w) (sym eb) (mod-lt (hi * 2 ^ up) (pow_pos w))))
    (λ j l.
    bit-xor a b j
    ∙ ap₂ xorb (ap (λ (x : ℕ). bit x j) ea ∙ bit-shr lo down j) (ap (λ (x : ℕ). bit x j) eb ∙ bit-shl-mod hi up w j l)
    ∙ by_lt j up
    (λ q. ap (λ (t : Bool). xorb (bit lo (down + j)) (t && bit hi (j - up))) (lt-leb up j q) ∙ xor_false (bit lo (down + j))
    ∙ ap (λ (t : Bool). choose t (bit lo (down + j)) (bit hi (down + j - w))) (sym (lt-ltb (down + j) w (omega arith))))
    (λ q. ap₂ (λ (s t : Bool). xorb s (t && bit hi (j - up))) (bit_past lo w (down + j) h (omega arith)) (le-leb up j q)
    ∙ ap (bit hi) (omega arith)
    ∙ ap (λ (t : Bool). choose t (bit lo (down + j)) (bit hi (down + j - w))) (sym (le-ltb (down + j) w (omega arith)))))

-- and that a funnel makes of the same amounts
pub funneled_is : (w lo hi down up : ℕ) → lo < 2 ^ w → down + up ≡ w → stepped w lo hi down ≡ funneled w lo hi down up
unfolding stepped
funneled_is w lo hi down up h e =
    let f : FromPlace w lo hi down (funneled w lo hi down up) = from_place w lo hi down up h e in
    sym (pack_is w (funneled w lo hi down up) (λ j. pair_bit w lo hi (down + j)) f.fits f.at)
