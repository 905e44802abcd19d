-- By cases on an order and on truth values.
use Rattle.std.proofs.Common.{◌≡◌, ℕ, zero, suc, ◌<◌, ◌≤◌, Bool, true, false, not, ◌&&◌, ◌||◌, T, eqb, ◌↔◌, sym, refl, ◌∙◌, subst, not-suc-le-zero, arith, eq-eqb, ne_eqb}
use mathlib.Core.Bool.{false≢true}
use native.Mathlib.Decide.{dec_lt, ℕ_discrete}
use Rattle.word.specs.Sets.{xorb}

pub by_lt {ℓ} : {A : Type ℓ} (a b : ℕ) → (a < b → A) → (b ≤ a → A) → A
by_lt {A = A} a b f g = go (dec_lt a b)
  where
    go : Dec (a < b) → A
    go (yes h) = f h
    go (no h) = g (omega arith)

pub by_eq {ℓ} : {A : Type ℓ} (a b : ℕ) → (a ≡ b → A) → ((a ≡ b → ⊥) → A) → A
by_eq {A = A} a b f g = go (ℕ_discrete a b)
  where
    go : Dec (a ≡ b) → A
    go (yes h) = f h
    go (no h) = g h

-- a test that came out as t
pub by_test {ℓ} : {A : Type ℓ} (t : Bool) → (t ≡ true → A) → (t ≡ false → A) → A
by_test true f g = f refl
by_test false f g = g refl

-- two constructors that are taken for one come to this
pub zero_one {ℓ} : {A : Type ℓ} → ◌≡◌ {A = ℕ} 0 1 → A
zero_one e = absurd (omega arith)

-- two that are true together are the same
pub same_test : (a b : Bool) → (a ≡ true) ↔ (b ≡ true) → a ≡ b
same_test true b e = sym (e.0 refl)
same_test false b e = by_test b (λ t. absurd (false≢true (e.1 t))) (λ t. sym t)

-- two tests of equality that say the same
pub eqb_same : (a b c d : ℕ) → (a ≡ b → c ≡ d) → (c ≡ d → a ≡ b) → eqb a b ≡ eqb c d
eqb_same a b c d f g = by_eq a b (λ e. eq-eqb a b e ∙ sym (eq-eqb c d (f e))) (λ n. ne_eqb a b n ∙ sym (ne_eqb c d (λ e. n (g e))))

pub or-false : (x : Bool) → x || false ≡ x
or-false true = refl
or-false false = refl

pub or-true : (x : Bool) → x || true ≡ true
or-true true = refl
or-true false = refl

pub xor-true : (x : Bool) → xorb x true ≡ not x
xor-true true = refl
xor-true false = refl

pub xor-false : (x : Bool) → xorb x false ≡ x
xor-false true = refl
xor-false false = refl

pub and-false : (x : Bool) → x && false ≡ false
and-false true = refl
and-false false = refl

pub and-keep : (x : Bool) → x && true ≡ x
and-keep true = refl
and-keep false = refl

pub and_same : (x : Bool) → x && x ≡ x
and_same true = refl
and_same false = refl

pub and-true : (t u : Bool) → t && u ≡ true → (t ≡ true) × (u ≡ true)
and-true true u e = (refl, e)
and-true false u e = absurd (false≢true e)

-- ---- a test at every number below m

abbrev pub every : (ℕ → Bool) → ℕ → Bool
every p zero = true
every p (suc m) = p m && every p m

both : (a b : Bool) → T (a && b) → T a × T b
both true b t = (tt, t)
both false b t = absurd t

pub every_at : (p : ℕ → Bool) (m : ℕ) → T (every p m) → (y : ℕ) → y < m → T (p y)
every_at p zero t y h = absurd (not-suc-le-zero h)
every_at p (suc m) t y h =
    by_eq y m
    (λ e. subst (λ (z : ℕ). T (p z)) (sym e) (both (p m) (every p m) t).0)
    (λ n. every_at p m (both (p m) (every p m) t).1 y (omega arith))
