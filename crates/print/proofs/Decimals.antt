-- The digits of a number.
use mathlib.Core.Path.{◌≡◌, refl, sym, ap, ◌∙◌, subst}
use mathlib.Core.Bool.{Bool, true, false}
use mathlib.Core.List.{List, [], ◌∷◌, ◌++◌}
use Prim.Native.Nat.{ℕ, zero, suc, ◌+◌, ◌*◌, ◌/◌, ◌%◌, ◌^◌, ◌≤◌, ◌<◌}
use native.Mathlib.Nat.{pow-suc, div-div-eq-div-mul}
use native.Mathlib.Omega.{arith}
use lib.ListN.{length, length-append}
use lib.Dec.{ltb}
use borrow.Author.Tests.{lt-ltb, le-ltb, ltb-true, ltb-false}
use Rattle.word.specs.Sets.{choose}
use Rattle.word.proofs.Cases.{by_lt}
use Rattle.text.specs.Lists.{zero_digit}
use Rattle.text.specs.Grammar.{Digit, Digits, one, more}
use Rattle.print.specs.Texts.{decimal_from, decimal}
use Rattle.text.proofs.Steps.{chosen, other}

-- ---- they mean the number

digit_of : (n : ℕ) → Digit (zero_digit + n % 10)
digit_of n = (omega arith, omega arith)

last-digit : (n v : ℕ) → v ≡ n % 10 → Digits ((zero_digit + n % 10) ∷ []) v
last-digit n v e = subst (Digits ((zero_digit + n % 10) ∷ [])) (omega arith) (one (digit_of n))

digits_from : (f n : ℕ) → n ≤ f → Digits (decimal_from f n) n
unfolding decimal_from
digits_from zero n h = last-digit n n (omega arith)
digits_from (suc f) n h = go (ltb n 10) refl (λ p. digits_from f (n / 10) (omega arith))
  where
    go : (t : Bool) → ltb n 10 ≡ t → (10 ≤ n → Digits (decimal_from f (n / 10)) (n / 10))
        → Digits (choose t ((zero_digit + n % 10) ∷ []) (decimal_from f (n / 10) ++ (zero_digit + n % 10) ∷ [])) n
    go true e ih = let l : n < 10 = ltb-true n 10 e in last-digit n n (omega arith)
    go false e ih =
        let l : 10 ≤ n = ltb-false n 10 e in
        subst (Digits (decimal_from f (n / 10) ++ (zero_digit + n % 10) ∷ [])) (omega arith)
        (more (zero_digit + n % 10) (ih l) (digit_of n))

pub decimal-digits : (n : ℕ) → Digits (decimal n) n
decimal-digits n = digits_from n n (omega arith)

-- ---- one digit, or one more than the number's tenth has

fuel : (f k n : ℕ) → n ≤ f → n ≤ k → decimal_from f n ≡ decimal_from k n
unfolding decimal_from
fuel zero zero n h l = refl
fuel zero (suc k) n h l = sym (chosen ((zero_digit + n % 10) ∷ []) (decimal_from k (n / 10) ++ (zero_digit + n % 10) ∷ []) (lt-ltb n 10 (omega arith)))
fuel (suc f) zero n h l = chosen ((zero_digit + n % 10) ∷ []) (decimal_from f (n / 10) ++ (zero_digit + n % 10) ∷ []) (lt-ltb n 10 (omega arith))
fuel (suc f) (suc k) n h l =
    ap (λ (x : List ℕ). choose (ltb n 10) ((zero_digit + n % 10) ∷ []) (x ++ (zero_digit + n % 10) ∷ [])) (fuel f k (n / 10) (omega arith) (omega arith))

pub decimal_small : (n : ℕ) → n < 10 → decimal n ≡ (zero_digit + n % 10) ∷ []
unfolding decimal_from
decimal_small zero h = refl
decimal_small (suc n) h = chosen ((zero_digit + suc n % 10) ∷ []) (decimal_from n (suc n / 10) ++ (zero_digit + suc n % 10) ∷ []) (lt-ltb (suc n) 10 h)

pub decimal-more : (n : ℕ) → 10 ≤ n → decimal n ≡ decimal (n / 10) ++ (zero_digit + n % 10) ∷ []
unfolding decimal_from
decimal-more zero h = absurd (omega arith)
decimal-more (suc n) h =
    other ((zero_digit + suc n % 10) ∷ []) (decimal_from n (suc n / 10) ++ (zero_digit + suc n % 10) ∷ []) (le-ltb (suc n) 10 h)
    ∙ ap (λ (x : List ℕ). x ++ (zero_digit + suc n % 10) ∷ []) (fuel n (suc n / 10) (suc n / 10) (omega arith) (omega arith))

length_more : (n : ℕ) → 10 ≤ n → length (decimal n) ≡ length (decimal (n / 10)) + 1
length_more n h = ap length (decimal-more n h) ∙ length-append (decimal (n / 10)) ((zero_digit + n % 10) ∷ [])

-- ---- how many there are

pub one-digit : (n : ℕ) → n < 10 → length (decimal n) ≡ 1
one-digit n h = ap length (decimal_small n h)

ten_pos : (k : ℕ) → 1 ≤ 10 ^ k
ten_pos zero = omega arith
ten_pos (suc k) = omega (arith, pow-suc 10 k, ten_pos k)

pub digits_are : (k n : ℕ) → 10 ^ k ≤ n → n < 10 ^ suc k → length (decimal n) ≡ suc k
digits_are zero n h l = one-digit n (omega arith)
digits_are (suc k) n h l =
    let p : 10 ^ suc k ≡ 10 ^ k * 10 = pow-suc 10 k in
    let q : 10 ^ suc (suc k) ≡ 10 ^ suc k * 10 = pow-suc 10 (suc k) in
    let r : 1 ≤ 10 ^ k = ten_pos k in
    omega (arith, length_more n (omega arith), digits_are k (n / 10) (omega arith) (omega arith))

pub digits-most : (k n : ℕ) → n < 10 ^ suc k → length (decimal n) ≤ suc k
digits-most zero n h = omega (arith, one-digit n (omega arith))
digits-most (suc k) n h =
    by_lt n 10
    (λ l. omega (arith, one-digit n l))
    (λ l. omega (arith, length_more n l, digits-most k (n / 10) (omega (arith, pow-suc 10 (suc k)))))

-- those of a number and of what is left of it without its last k
pub digits-left : (k n : ℕ) → 10 ^ k ≤ n → length (decimal n) ≡ k + length (decimal (n / 10 ^ k))
digits-left zero n h = let e : n ≡ n / 10 ^ 0 = omega arith in omega (arith, ap (λ (x : ℕ). length (decimal x)) e)
digits-left (suc k) n h =
    let p : 10 ^ suc k ≡ 10 ^ k * 10 = pow-suc 10 k in
    let r : 1 ≤ 10 ^ k = ten_pos k in
    let e : n / 10 / 10 ^ k ≡ n / 10 ^ suc k = div-div-eq-div-mul n 10 (10 ^ k) ∙ ap (λ (x : ℕ). n / x) (omega arith) in
    omega (arith, length_more n (omega arith), digits-left k (n / 10) (omega arith), ap (λ (x : ℕ). length (decimal x)) e)

pub digits_some : (n : ℕ) → 0 < length (decimal n)
digits_some n = by_lt n 10 (λ l. omega (arith, one-digit n l)) (λ l. omega (arith, length_more n l))

-- ---- the last k digits, the lowest last

pub last_digits : ℕ → ℕ → List ℕ
last_digits zero n = []
last_digits (suc k) n = last_digits k (n / 10) ++ (zero_digit + n % 10) ∷ []

pub length_last : (k n : ℕ) → length (last_digits k n) ≡ k
unfolding last_digits
length_last zero n = refl
length_last (suc k) n = length-append (last_digits k (n / 10)) ((zero_digit + n % 10) ∷ []) ∙ omega (arith, length_last k (n / 10))

pub last_none : (n : ℕ) → last_digits 0 n ≡ []
unfolding last_digits
last_none n = refl

last_one : (n : ℕ) → n < 10 → last_digits (length (decimal n)) n ≡ decimal n
unfolding last_digits
last_one n l = ap (λ (k : ℕ). last_digits k n) (one-digit n l) ∙ sym (decimal_small n l)

pub last_more : (k n : ℕ) → last_digits (suc k) n ≡ last_digits k (n / 10) ++ (zero_digit + n % 10) ∷ []
unfolding last_digits
last_more k n = refl

last_go : (f n : ℕ) → n ≤ f → last_digits (length (decimal n)) n ≡ decimal n
last_go zero n h = last_one n (omega arith)
last_go (suc f) n h =
    by_lt n 10
    (λ l. last_one n l)
    (λ l.
    ap (λ (k : ℕ). last_digits k n) (length_more n l ∙ omega arith) ∙ last_more (length (decimal (n / 10))) n
    ∙ ap (λ (x : List ℕ). x ++ (zero_digit + n % 10) ∷ []) (last_go f (n / 10) (omega arith))
    ∙ sym (decimal-more n l))

pub last-all : (n : ℕ) → last_digits (length (decimal n)) n ≡ decimal n
last-all n = last_go n n (omega arith)
