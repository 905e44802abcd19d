-- Payloads as the code reads them: numbers of at most eight bytes, and fields cut out of them.
use Prim.Native.Nat.{ℕ, ◌+◌, ◌*◌, ◌/◌, ◌%◌, ◌^◌, ◌-◌, ◌≤◌, ◌<◌}
use mathlib.Core.Path.{◌≡◌, refl, sym, ap, ap₂, ◌∙◌, subst}
use mathlib.Core.Bool.{Bool}
use mathlib.Core.List.{List, [], ◌∷◌}
use mathlib.Core.Option.{none, some}
use native.Mathlib.Omega.{arith}
use lib.ListN.{length, take, drop, length-drop}
use lib.Seq.{length-take-le, take_all, drop-drop}
use lib.Dec.{leb}
use borrow.Author.Tests.{le-leb, lt-leb}
use Rattle.word.specs.Places.{is_one}
use Rattle.word.proofs.Cases.{by_lt}
use Rattle.storage.specs.declared.Refusal.TheVariants.{BadPayload}
use Rattle.sheet.specs.Bytes.{number}
use Rattle.sheet.specs.Kinds.{row_of, number_in, rule_of}
use Rattle.sheet.proofs.Payloads.{rule_good, rule_spoilt, rule_over}
use Rattle.sheet.specs.declared.Edit.{Edit}
use Rattle.sheet.specs.declared.Edit.TheVariants.{Set, Unset, SetRegion, SetField, Shift, Rotate, Resize, Reverse, ToggleRegion, Open, Close}
use Rattle.decode.specs.Kernels.{asks}
use Rattle.decode.proofs.Numbers.{number_cut}
use Rattle.decode.specs.Asks.{Asked}
use Rattle.std.specs.Prelude.{Ok, Err}

-- x is the number of the bytes l
abbrev pub IsNumber : List ℕ → ℕ → Type 0
IsNumber l x = (x ≡ number l) × (x < 256 ^ length l)

-- so it is below 256 ^ n where there are n bytes
pub below : (l : List ℕ) (x n : ℕ) → IsNumber l x → length l ≡ n → x < 256 ^ n
below l x n h e = subst (λ (m : ℕ). x < 256 ^ m) e h.1

-- the bytes from k on, as a slice has them
pub rest : (k : ℕ) (l : List ℕ) (x : ℕ) → IsNumber (take (length l - k) (drop k l)) x → IsNumber (drop k l) x
rest k l x h = subst (λ (y : List ℕ). IsNumber y x) (take_all (length l - k) (drop k l) (omega (arith, length-drop k l))) h

-- a payload's edit, or none
is_edit : (k : ℕ) (l : List ℕ) (e : Edit) → rule_of k l ≡ some e → Ok e ≡ asks (rule_of k l)
is_edit k l e q = ap asks (sym q)

no_edit : (k : ℕ) (l : List ℕ) → rule_of k l ≡ none → Err BadPayload ≡ asks (rule_of k l)
no_edit k l q = ap asks (sym q)

pub by_kind : (kind k : ℕ) (l : List ℕ) (a : Asked) → kind ≡ k → a ≡ asks (rule_of k l) → a ≡ asks (rule_of kind l)
by_kind kind k l a e q = q ∙ ap (λ (k : ℕ). asks (rule_of k l)) (sym e)

-- a flag is 1 from m on
one_bit : (b m d : ℕ) → (b < m → d ≡ 0) → (m ≤ b → d ≡ 1) → is_one d ≡ leb m b
one_bit b m d z o = by_lt b m (λ h. ap is_one (z h) ∙ sym (lt-leb m b h)) (λ h. ap is_one (o h) ∙ sym (le-leb m b h))

-- ---- kinds 1 and 2

module _ (kind : ℕ) (l : List ℕ) (p : ℕ) (n : length l ≡ 4) (h : IsNumber l p) where
  up : p < 2 ^ 32
  up = below l p 4 h n

  pub place_set : kind ≡ 1 → Ok (Set p) ≡ asks (rule_of kind l)
  unfolding row_of number_in
  place_set k = by_kind kind 1 l _ k (is_edit 1 l (Set p) (rule_good 1 _ refl l (p ∷ []) 0 (up, tt) (omega arith) (omega (arith, h.0)) refl (omega arith, omega (arith, up), tt)))

  pub place-unset : kind ≡ 2 → Ok (Unset p) ≡ asks (rule_of kind l)
  unfolding row_of number_in
  place-unset k = by_kind kind 2 l _ k (is_edit 2 l (Unset p) (rule_good 2 _ refl l (p ∷ []) 0 (up, tt) (omega arith) (omega (arith, h.0)) refl (omega arith, omega (arith, up), tt)))

-- ---- kind 3

module _ (l : List ℕ) (b x : ℕ) (n : length l ≡ 9) (hb : IsNumber (take 1 l) b) (hx : IsNumber (drop 1 l) x) where
  region-number : number l ≡ b * 2 ^ 64 + x
  region-number =
      number_cut 1 l ∙ ap (λ (m : ℕ). number (take 1 l) * 256 ^ m + number (drop 1 l)) (length-drop 1 l ∙ ap (λ (m : ℕ). m - 1) n)
      ∙ ap₂ (λ (y z : ℕ). y * 2 ^ 64 + z) (sym hb.0) (sym hx.0)

  region_b : b < 256
  region_b = below (take 1 l) b 1 hb (length-take-le 1 l (omega arith))

  region_x : x < 2 ^ 64
  region_x = below (drop 1 l) x 8 hx (length-drop 1 l ∙ ap (λ (m : ℕ). m - 1) n)

  -- the flag, p and k, and the unused bits
  abbrev region-values : List ℕ
  region-values = b / 128 ∷ (b % 128 * 2 ^ 25 + x / 2 ^ 39) ∷ x / 128 % 2 ^ 32 ∷ []

  region_sized : (b / 128 < 2 ^ 1) × ((b % 128 * 2 ^ 25 + x / 2 ^ 39 < 2 ^ 32) × ((x / 128 % 2 ^ 32 < 2 ^ 32) × Unit {0}))
  region_sized = (omega (arith, region_b), (omega (arith, region_x), (omega arith, tt)))

  region_is : number l ≡ (b / 128 * 2 ^ 64 + ((b % 128 * 2 ^ 25 + x / 2 ^ 39) * 2 ^ 32 + (x / 128 % 2 ^ 32 * 2 ^ 0 + 0))) * 2 ^ 7 + x % 128
  region_is = region-number ∙ omega arith

  pub region_bad : (x % 128 ≡ 0 → ⊥) → Err BadPayload ≡ asks (rule_of 3 l)
  unfolding row_of number_in
  region_bad z = no_edit 3 l (rule_spoilt 3 _ refl l region-values (x % 128) region_sized (omega arith) region_is z)

  pub region_good : x % 128 ≡ 0 → Ok (SetRegion (leb 128 b) (b % 128 * 2 ^ 25 + x / 2 ^ 39) (x / 128 % 2 ^ 32)) ≡ asks (rule_of 3 l)
  unfolding row_of number_in
  region_good z =
      is_edit 3 l _
      (rule_good 3 _ refl l region-values (x % 128) region_sized (omega arith) region_is z
      (omega arith, omega (arith, region_b), (omega arith, omega (arith, region_x), (omega arith, omega arith, tt)))
      ∙ ap (λ (t : Bool). some (SetRegion t (b % 128 * 2 ^ 25 + x / 2 ^ 39) (x / 128 % 2 ^ 32)))
      (one_bit b 128 (b / 128) (λ h. omega arith) (λ h. omega (arith, region_b))))

-- ---- kind 4

module _ (l : List ℕ) (p b x : ℕ) (n : length l ≡ 13) (hp : IsNumber (take 4 l) p) (hb : IsNumber (take 1 (drop 4 l)) b) (hx : IsNumber (drop 5 l) x) where
  tail : length (drop 4 l) ≡ 9
  tail = length-drop 4 l ∙ ap (λ (m : ℕ). m - 4) n

  answer_number : number l ≡ p * 2 ^ 72 + (b * 2 ^ 64 + x)
  answer_number =
      number_cut 4 l ∙ ap (λ (m : ℕ). number (take 4 l) * 256 ^ m + number (drop 4 l)) tail
      ∙ ap₂ (λ (y z : ℕ). y * 2 ^ 72 + z) (sym hp.0) (region-number (drop 4 l) b x tail hb (subst (λ (y : List ℕ). IsNumber y x) (sym (drop-drop 1 4 l)) hx))

  field_p : p < 2 ^ 32
  field_p = below (take 4 l) p 4 hp (length-take-le 4 l (omega arith))

  field_b : b < 256
  field_b = below (take 1 (drop 4 l)) b 1 hb (length-take-le 1 (drop 4 l) (omega (arith, tail)))

  field_x : x < 2 ^ 64
  field_x = below (drop 5 l) x 8 hx (length-drop 5 l ∙ ap (λ (m : ℕ). m - 5) n)

  -- the value fits a word
  pub value-fits : b % 2 * 2 ^ 63 + x / 2 < 2 ^ 64
  value-fits = omega (arith, field_x)

  -- p, the width and the value, and the unused bit
  abbrev field-values : List ℕ
  field-values = p ∷ b / 2 ∷ (b % 2 * 2 ^ 63 + x / 2) ∷ []

  field_sized : (p < 2 ^ 32) × ((b / 2 < 2 ^ 7) × ((b % 2 * 2 ^ 63 + x / 2 < 2 ^ 64) × Unit {0}))
  field_sized = (field_p, (omega (arith, field_b), (value-fits, tt)))

  field_is : number l ≡ (p * 2 ^ 71 + (b / 2 * 2 ^ 64 + ((b % 2 * 2 ^ 63 + x / 2) * 2 ^ 0 + 0))) * 2 ^ 1 + x % 2
  field_is = answer_number ∙ omega arith

  pub field_odd : (x % 2 ≡ 0 → ⊥) → Err BadPayload ≡ asks (rule_of 4 l)
  unfolding row_of number_in
  field_odd z = no_edit 4 l (rule_spoilt 4 _ refl l field-values (x % 2) field_sized (omega arith) field_is z)

  pub field-wide : 64 < b / 2 → Err BadPayload ≡ asks (rule_of 4 l)
  unfolding row_of number_in
  field-wide z = no_edit 4 l (rule_over 4 _ refl l field-values (x % 2) field_sized (omega arith) field_is (λ i. omega (arith, i.2.1)))

  pub field_good : x % 2 ≡ 0 → b / 2 ≤ 64 → Ok (SetField p (b / 2) (b % 2 * 2 ^ 63 + x / 2)) ≡ asks (rule_of 4 l)
  unfolding row_of number_in
  field_good z w =
      is_edit 4 l _
      (rule_good 4 _ refl l field-values (x % 2) field_sized (omega arith) field_is z
      (omega arith, omega (arith, field_p), (omega arith, w, (omega arith, omega (arith, value-fits), tt))))

-- ---- kinds 5, 6 and 7

module _ (l : List ℕ) (x : ℕ) (n : length l ≡ 5) (h : IsNumber l x) where
  five : x < 2 ^ 40
  five = below l x 5 h n

  -- the direction and k, and the unused bits
  abbrev turn-values : List ℕ
  turn-values = x / 2 ^ 39 ∷ x / 128 % 2 ^ 32 ∷ []

  turn_sized : (x / 2 ^ 39 < 2 ^ 1) × ((x / 128 % 2 ^ 32 < 2 ^ 32) × Unit {0})
  turn_sized = (omega (arith, five), (omega arith, tt))

  turn_is : number l ≡ (x / 2 ^ 39 * 2 ^ 32 + (x / 128 % 2 ^ 32 * 2 ^ 0 + 0)) * 2 ^ 7 + x % 128
  turn_is = sym h.0 ∙ omega arith

  direction : is_one (x / 2 ^ 39) ≡ leb (2 ^ 39) x
  direction = one_bit x (2 ^ 39) (x / 2 ^ 39) (λ k. omega arith) (λ k. omega (arith, five))

  pub turn_bad : (kind : ℕ) → 5 ≤ kind → kind ≤ 6 → (x % 128 ≡ 0 → ⊥) → Err BadPayload ≡ asks (rule_of kind l)
  unfolding row_of number_in
  turn_bad kind a b z =
      by_lt kind 6
      (λ k. by_kind kind 5 l _ (omega arith) (no_edit 5 l (rule_spoilt 5 _ refl l turn-values (x % 128) turn_sized (omega arith) turn_is z)))
      (λ k. by_kind kind 6 l _ (omega arith) (no_edit 6 l (rule_spoilt 6 _ refl l turn-values (x % 128) turn_sized (omega arith) turn_is z)))

  pub turn_shift : (kind : ℕ) → kind ≡ 5 → x % 128 ≡ 0 → Ok (Shift (leb (2 ^ 39) x) (x / 128 % 2 ^ 32)) ≡ asks (rule_of kind l)
  unfolding row_of number_in
  turn_shift kind k z =
      by_kind kind 5 l _ k
      (is_edit 5 l _
      (rule_good 5 _ refl l turn-values (x % 128) turn_sized (omega arith) turn_is z (omega arith, omega (arith, five), (omega arith, omega arith, tt))
      ∙ ap (λ (t : Bool). some (Shift t (x / 128 % 2 ^ 32))) direction))

  pub turn_rotate : (kind : ℕ) → kind ≡ 6 → x % 128 ≡ 0 → Ok (Rotate (leb (2 ^ 39) x) (x / 128 % 2 ^ 32)) ≡ asks (rule_of kind l)
  unfolding row_of number_in
  turn_rotate kind k z =
      by_kind kind 6 l _ k
      (is_edit 6 l _
      (rule_good 6 _ refl l turn-values (x % 128) turn_sized (omega arith) turn_is z (omega arith, omega (arith, five), (omega arith, omega arith, tt))
      ∙ ap (λ (t : Bool). some (Rotate t (x / 128 % 2 ^ 32))) direction))

  size_sized : (x / 128 < 2 ^ 33) × Unit {0}
  size_sized = (omega (arith, five), tt)

  size_is : number l ≡ (x / 128 * 2 ^ 0 + 0) * 2 ^ 7 + x % 128
  size_is = sym h.0 ∙ omega arith

  pub size_bad : (x % 128 ≡ 0 → ⊥) → Err BadPayload ≡ asks (rule_of 7 l)
  unfolding row_of number_in
  size_bad z = no_edit 7 l (rule_spoilt 7 _ refl l (x / 128 ∷ []) (x % 128) size_sized (omega arith) size_is z)

  pub size-over : 2 ^ 32 < x / 128 → Err BadPayload ≡ asks (rule_of 7 l)
  unfolding row_of number_in
  size-over z = no_edit 7 l (rule_over 7 _ refl l (x / 128 ∷ []) (x % 128) size_sized (omega arith) size_is (λ i. omega (arith, i.1)))

  pub size_good : x % 128 ≡ 0 → x / 128 ≤ 2 ^ 32 → Ok (Resize (x / 128)) ≡ asks (rule_of 7 l)
  unfolding row_of number_in
  size_good z w = is_edit 7 l _ (rule_good 7 _ refl l (x / 128 ∷ []) (x % 128) size_sized (omega arith) size_is z (omega arith, w, tt))

-- ---- kinds 9, 10 and 11

module _ (l : List ℕ) (x : ℕ) (n : length l ≡ 8) (h : IsNumber l x) (kind : ℕ) where
  eight : x < 2 ^ 64
  eight = below l x 8 h n

  -- p and k
  abbrev pair_values : List ℕ
  pair_values = x / 2 ^ 32 ∷ x % 2 ^ 32 ∷ []

  pair_sized : (x / 2 ^ 32 < 2 ^ 32) × ((x % 2 ^ 32 < 2 ^ 32) × Unit {0})
  pair_sized = (omega (arith, eight), (omega arith, tt))

  pair_is : number l ≡ (x / 2 ^ 32 * 2 ^ 32 + (x % 2 ^ 32 * 2 ^ 0 + 0)) * 2 ^ 0 + 0
  pair_is = sym h.0 ∙ omega arith

  pub pair-toggle : kind ≡ 9 → Ok (ToggleRegion (x / 2 ^ 32) (x % 2 ^ 32)) ≡ asks (rule_of kind l)
  unfolding row_of number_in
  pair-toggle k =
      by_kind kind 9 l _ k
      (is_edit 9 l _ (rule_good 9 _ refl l pair_values 0 pair_sized (omega arith) pair_is refl (omega arith, omega (arith, eight), (omega arith, omega arith, tt))))

  pub pair_open : kind ≡ 10 → Ok (Open (x / 2 ^ 32) (x % 2 ^ 32)) ≡ asks (rule_of kind l)
  unfolding row_of number_in
  pair_open k =
      by_kind kind 10 l _ k
      (is_edit 10 l _ (rule_good 10 _ refl l pair_values 0 pair_sized (omega arith) pair_is refl (omega arith, omega (arith, eight), (omega arith, omega arith, tt))))

  pub pair_close : kind ≡ 11 → Ok (Close (x / 2 ^ 32) (x % 2 ^ 32)) ≡ asks (rule_of kind l)
  unfolding row_of number_in
  pair_close k =
      by_kind kind 11 l _ k
      (is_edit 11 l _ (rule_good 11 _ refl l pair_values 0 pair_sized (omega arith) pair_is refl (omega arith, omega (arith, eight), (omega arith, omega arith, tt))))

-- ---- kind 8

pub just_reverse : (kind : ℕ) (l : List ℕ) → length l ≡ 0 → kind ≡ 8 → Ok Reverse ≡ asks (rule_of kind l)
unfolding row_of number_in number
just_reverse kind l n k = by_kind kind 8 l _ k (is_edit 8 l _ (rule_good 8 _ refl l [] 0 tt (omega arith) (nothing l n) refl tt))
  where
    nothing : (l : List ℕ) → length l ≡ 0 → number l ≡ 0
    nothing [] n = refl
    nothing (b ∷ l) n = absurd (omega arith)
