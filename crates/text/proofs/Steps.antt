-- What a byte, a token's state and a token's end come to, where they are known by equations.
use mathlib.Core.Path.{◌≡◌, refl, sym, ap, ap₂, ◌∙◌}
use mathlib.Core.Bool.{Bool, true, false, ◌&&◌}
use mathlib.Core.List.{List, [], ◌∷◌}
use Prim.Native.Nat.{ℕ, zero, suc, ◌+◌, ◌-◌, ◌≤◌, ◌<◌}
use native.Mathlib.Omega.{arith}
use lib.Dec.{leb, ltb, eqb, eqb-suc-zero}
use borrow.Author.Tests.{lt-ltb, le-ltb, lt-leb, le-leb, leb-true, ne_eqb, eq-eqb}
use Rattle.word.specs.Sets.{choose}
use Rattle.word.proofs.Cases.{zero_one}
use Rattle.text.specs.Lists.{comma, zero_digit, list_limit, blank, digit, plain}
use Rattle.text.specs.Readings as read
use Rattle.text.specs.Readings.{kind, NumberSoFar, Unread, Open, Closed, Left, Alone, From, bit_of, value, unread, alone, empty, ranged, token, part, grown}
use Rattle.text.specs.Readings.{Go, Stop, by_digit, by_blank, by_joiner, by_kind}
use Rattle.text.specs.Kernels.{number_so_far, left_of, part_of}
use Rattle.text.specs.declared.Kind.{Kind}
use Rattle.text.specs.declared.Kind.TheVariants.{Digit, Blank, Joiner, Comma, Other}
use Rattle.text.specs.declared.Fault.{Fault}
use Rattle.text.specs.declared.Fault.TheVariants.{Slip, Huge}
use Rattle.text.specs.declared.Part.{Part}
use Rattle.text.specs.Readings.{Value, Token}
use Rattle.std.specs.Prelude.{Ok, Err, Some, None, slice_index}
use Rattle.std.specs.Bool.{MatchBool}
use Rattle.std.specs.Str.{IsAscii, IsNotAscii}

pub step-at : (x : ℕ) (p : read.Part) {k k' : Kind} {l : Left} {n : NumberSoFar} → k ≡ k' → p.left ≡ l → p.number ≡ n → by_kind x p k ≡ by_kind x (record { left = l; number = n }) k'
step-at x p e f g = λ i. by_kind x (record { left = f i; number = g i }) (e i)

pub token-at : (x : ℕ) (p : read.Part) {l : Left} {v : Value} → empty p ≡ false → p.left ≡ l → value x p.number ≡ v → token x p ≡ ranged l v
unfolding token
token-at x p h e f = (λ i. choose (h i) (Ok None) (ranged (e i) (f i)))

pub token-empty : (x : ℕ) (p : read.Part) → empty p ≡ true → token x p ≡ (Ok None)
unfolding token
token-empty x p h = ap (λ (t : Bool). choose t (Ok None) (ranged p.left (value x p.number))) h

pub chosen : {A : Type 0} {t : Bool} (a b : A) → t ≡ true → choose t a b ≡ a
chosen a b e = ap (λ (x : Bool). choose x a b) e

pub other : {A : Type 0} {t : Bool} (a b : A) → t ≡ false → choose t a b ≡ b
other a b e = ap (λ (x : Bool). choose x a b) e

-- ---- what a byte is
pub kind-digit : (j c : ℕ) → digit c ≡ true → Digit (c - zero_digit) ≡ kind j c
unfolding kind
kind-digit j c e = rw e

pub kind-blank : (j c : ℕ) → digit c ≡ false → blank c ≡ true → Blank ≡ kind j c
unfolding kind
kind-blank j c e f = rw (e, f)

pub kind_joiner : (j c : ℕ) → digit c ≡ false → blank c ≡ false → c ≡ j → Joiner ≡ kind j c
unfolding kind
kind_joiner j c e f g = rw (e, f, eq-eqb c j g)

pub kind-comma : (j c : ℕ) → digit c ≡ false → blank c ≡ false → (c ≡ j → ⊥) → c ≡ comma → Comma ≡ kind j c
unfolding kind
kind-comma j c e f g h = rw (e, f, ne_eqb c j g, eq-eqb c comma h)

pub kind_other : (j c : ℕ) → digit c ≡ false → blank c ≡ false → (c ≡ j → ⊥) → (c ≡ comma → ⊥) → Other ≡ kind j c
unfolding kind
kind_other j c e f g h = rw (e, f, ne_eqb c j g, ne_eqb c comma h)

-- ---- bytes below 128
pub plain_all : (t : List ℕ) → ((i : ℕ) → slice_index t i < 128) → plain t ≡ true
unfolding plain
plain_all [] h = refl
plain_all (c ∷ t) h = ap₂ (λ (x y : Bool). x && y) (lt-ltb c 128 (h 0)) (plain_all t (λ i. h (suc i)))

pub plain_some : (t : List ℕ) (i : ℕ) → 128 ≤ slice_index t i → plain t ≡ false
unfolding plain
plain_some [] i h = absurd (omega arith)
plain_some (c ∷ t) zero h = ap (λ (x : Bool). x && plain t) (le-ltb c 128 h)
plain_some (c ∷ t) (suc i) h = ap (λ (x : Bool). ltb c 128 && x) (plain_some t i h) ∙ and_false (ltb c 128)
  where
    and_false : (x : Bool) → x && false ≡ false
    and_false true = refl
    and_false false = refl

pub plain_by : (t : List ℕ) (b : Bool) → MatchBool b (IsAscii t) (IsNotAscii t) → b ≡ plain t
plain_by t true h = sym (plain_all t h)
plain_by t false (i, h) = sym (plain_some t i h)

-- ---- a token whose last number is bad
pub ranged_bad : (l : Left) (e : Fault) → ranged l (Err e) ≡ Err e
ranged_bad Alone e = refl
ranged_bad (From a) e = refl

pub token_bad : (x : ℕ) (p : read.Part) (d : Fault) → empty p ≡ false → value x p.number ≡ Err d → token x p ≡ Err d
token_bad x p d h e = token-at x p h refl e ∙ ranged_bad p.left d

-- no token has a number past the limit
abbrev last_of : Token → Value
last_of (Ok (Some (i, j))) = Ok j
last_of (Ok None) = Err Slip
last_of (Err d) = Err d

ranged_limit : (l : Left) (v : Value) (a b : ℕ) → ranged l v ≡ Ok (Some (a, b)) → v ≡ Ok b
ranged_limit l (Err d) a b e = ap last_of (sym (ranged_bad l d) ∙ e)
ranged_limit Alone (Ok y) a b e = ap last_of e
ranged_limit (From x) (Ok y) a b e = go (leb x y) _ e
  where
    pair : ℕ → Token
    pair j = Ok (Some (x, j))

    go : (t : Bool) (d : Fault) → choose t (pair y) (Err d) ≡ Ok (Some (a, b)) → last_of (pair y) ≡ Ok b
    go true d h = ap last_of h
    go false d h = zero_one cc

-- a bit that is taken is within the limit, and the number is it and the first
pub bit_is : (x v b : ℕ) → bit_of x v ≡ Ok b → (v ≡ b + x) × (b ≤ list_limit)
bit_is x v b e = go (leb x v) refl (leb v (list_limit + x)) refl _ _ e
  where
    go : (t : Bool) → leb x v ≡ t → (u : Bool) → leb v (list_limit + x) ≡ u → (d e : Fault) → choose t (choose u (Ok (v - x)) (Err d)) (Err e) ≡ Ok b → (v ≡ b + x) × (b ≤ list_limit)
    go true h true g d e f =
        let k : v - x ≡ b = cc in
        (omega (arith, leb-true x v h, k), omega (arith, leb-true v (list_limit + x) g, k))
    go true h false g d e f = zero_one cc
    go false h u g d e f = zero_one cc

pub bit_of_lem : (x v b : ℕ) → v ≡ b + x → b ≤ list_limit → bit_of x v ≡ Ok b
bit_of_lem x v b e h =
    chosen _ _ (le-leb x v (omega arith)) ∙ chosen _ _ (le-leb v (list_limit + x) (omega arith)) ∙ ap Ok (omega arith)

pub bit-within : (x v : ℕ) → x ≤ v → v - x ≤ list_limit → bit_of x v ≡ Ok (v - x)
bit-within x v h l = bit_of_lem x v (v - x) (omega arith) l

-- below the first number, or past the limit
pub bit_below : (x v : ℕ) → v < x → bit_of x v ≡ Err Slip
bit_below x v h = ap (λ (t : Bool). choose t (choose (leb v (list_limit + x)) (Ok (v - x)) (Err Huge)) (Err Slip)) (lt-leb x v h)

pub bit-over : (x v : ℕ) → x ≤ v → list_limit < v - x → bit_of x v ≡ Err Huge
bit-over x v h l = ap₂ (λ (t u : Bool). choose t (choose u (Ok (v - x)) (Err Huge)) (Err Slip)) (le-leb x v h) (lt-leb v (list_limit + x) (omega arith))

value_limit : (x : ℕ) (n : NumberSoFar) (b : ℕ) → value x n ≡ Ok b → b ≤ list_limit
unfolding value
value_limit x Unread b e = zero_one cc
value_limit x (Open v) b e = (bit_is x v b e).1
value_limit x (Closed v) b e = (bit_is x v b e).1

pub token_limit : (x : ℕ) (p : read.Part) (a b : ℕ) → token x p ≡ Ok (Some (a, b)) → b ≤ list_limit
unfolding token
token_limit x p a b e = go (empty p) e
  where
    go : (t : Bool) → choose t (Ok None) (ranged p.left (value x p.number)) ≡ Ok (Some (a, b)) → b ≤ list_limit
    go true h = zero_one cc
    go false h = value_limit x p.number b (ranged_limit p.left (value x p.number) a b h)

-- ---- the code's numbers as a token's state

pub number_none : (n v : ℕ) → n ≡ 0 → number_so_far n v ≡ Unread
number_none n v e = ap (λ (x : ℕ). number_so_far x v) e

pub number_open : (n v : ℕ) → n ≡ 1 → number_so_far n v ≡ Open v
number_open n v e = ap (λ (x : ℕ). number_so_far x v) e

pub number-closed : (n v : ℕ) → (n ≡ 0 → ⊥) → (n ≡ 1 → ⊥) → number_so_far n v ≡ Closed v
number-closed zero v e f = absurd (e refl)
number-closed (suc zero) v e f = absurd (f refl)
number-closed (suc (suc n)) v e f = refl

pub number_some : (x n v : ℕ) → (n ≡ 0 → ⊥) → value x (number_so_far n v) ≡ bit_of x v
unfolding value
number_some x zero v e = absurd (e refl)
number_some x (suc zero) v e = refl
number_some x (suc (suc n)) v e = refl

pub left_none : (n a : ℕ) → n ≡ 0 → left_of n a ≡ Alone
left_none n a e = ap (λ (x : ℕ). left_of x a) e

pub left_some : (n a : ℕ) → (n ≡ 0 → ⊥) → left_of n a ≡ From a
left_some zero a e = absurd (e refl)
left_some (suc n) a e = refl

unread_is : (n v : ℕ) → unread (number_so_far n v) ≡ eqb n 0
unread_is zero v = refl
unread_is (suc zero) v = refl
unread_is (suc (suc n)) v = sym (eqb-suc-zero (suc n))

pub empty_none : (p : Part) → p.split ≡ 0 → eqb p.phase 0 ≡ empty (part_of p)
unfolding empty
empty_none p e = sym (ap (λ (x : ℕ). alone (left_of x p.left) && unread (number_so_far p.phase p.value)) e ∙ unread_is p.phase p.value)

pub empty_some : (p : Part) → (p.split ≡ 0 → ⊥) → false ≡ empty (part_of p)
unfolding empty
empty_some p e = sym (ap (λ (x : Left). alone x && unread (number_so_far p.phase p.value)) (left_some p.split p.left e))

-- ---- the code's steps

pub by_digit_none : (l : Left) (n v d : ℕ) → n ≡ 0 → Go (part l (Open d)) ≡ by_digit l (number_so_far n v) d
by_digit_none l n v d e = sym (ap (λ (x : NumberSoFar). by_digit l x d) (number_none n v e))

pub by_digit_open : (l : Left) (n v d x : ℕ) → n ≡ 1 → x ≡ grown v d → Go (part l (Open x)) ≡ by_digit l (number_so_far n v) d
by_digit_open l n v d x e f = ap (λ (y : ℕ). Go (part l (Open y))) f ∙ sym (ap (λ (y : NumberSoFar). by_digit l y d) (number_open n v e))

pub by_digit-closed : (l : Left) (n v d : ℕ) → (n ≡ 0 → ⊥) → (n ≡ 1 → ⊥) → Stop Slip ≡ by_digit l (number_so_far n v) d
by_digit-closed l n v d e f = sym (ap (λ (x : NumberSoFar). by_digit l x d) (number-closed n v e f))

pub by_joiner_twice : (n a : ℕ) (v : Value) → (n ≡ 0 → ⊥) → Stop Slip ≡ by_joiner (left_of n a) v
by_joiner_twice n a v e = sym (ap (λ (x : Left). by_joiner x v) (left_some n a e))

pub by_joiner_is : (n a : ℕ) (u v : Value) → n ≡ 0 → v ≡ u → by_joiner Alone u ≡ by_joiner (left_of n a) v
by_joiner_is n a u v e f = sym (λ i. by_joiner (left_none n a e i) (f i))

-- a blank after no digit, or after another blank
pub blank_keeps : (x : ℕ) (p : Part) {k : Kind} → k ≡ Blank → (p.phase ≡ 1 → ⊥) → read.Go (part_of p) ≡ by_kind x (part_of p) k
unfolding by_kind
blank_keeps x p e f = go p.phase f ∙ ap (by_kind x (part_of p)) (sym e)
  where
    go : (n : ℕ) → (n ≡ 1 → ⊥) → read.Go (record { left = left_of p.split p.left; number = number_so_far n p.value }) ≡ by_blank (left_of p.split p.left) (number_so_far n p.value)
    go zero h = refl
    go (suc zero) h = absurd (h refl)
    go (suc (suc n)) h = refl
