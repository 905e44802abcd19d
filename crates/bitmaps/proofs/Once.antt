-- What is promised of each call determines its answer: the result, number by number, and its count; and no two conditions of refusal hold at once.
use mathlib.Core.Path.{◌≡◌, refl, sym, ap, ◌∙◌, subst}
use mathlib.Core.Bool.{Bool, true, false, not}
use mathlib.Core.List.{List}
use mathlib.Core.Logic.{◌⊎◌, inl, inr}
use Prim.Native.Nat.{ℕ, suc, ◌+◌, ◌-◌, ◌*◌, ◌/◌, ◌%◌, ◌^◌, ◌≤◌, ◌<◌, max}
use native.Mathlib.Omega.{arith}
use lib.ListN.{length, get_or}
use Rattle.word.specs.Sets.{least_from, Least}
use Rattle.word.proofs.Cases.{by_lt, by_eq, by_test}
use Rattle.word.proofs.Sets.{least}
use Rattle.storage.specs.Stores.{Bits}
use Rattle.storage.specs.Promises.{OneEnd}
use Rattle.storage.proofs.Once.{same_bits, same_set, by_region, one_bit, fewest_of, once_never, once_lacks, once_lacks_result}
use Rattle.storage.proofs.Promises.{once_exact}
use Rattle.bitmaps.specs.Bitmaps.{setting, unsetting, trimming, setting_many, setting_region, setting_field, keeping_bit, dropping_bit, flipping_bit}
use Rattle.bitmaps.specs.Promises.{WithBit, WithListed, LacksListed, WithoutBit, Fewest, WithRegion, NoRegion, WithField, NoField, Tidied, OnlyBit, FlippedBit, ThenTidied, CallsExact}
use Rattle.bitmaps.proofs.Cases.{zero_digit_lem, some_at}
use Rattle.bitmaps.proofs.Promises.{sets, sets_many, unsets, trims, regions, fields, keeps_bit, drops_bit, flips_bit}

module _ (b s t : Bits) where
  pub one-region : (i : ℕ) (v : Bool) (k : ℕ) → (k ≡ 0 → ⊥) → WithRegion i v k b s → WithRegion i v k b t → s ≡ t
  one-region i v k some p q =
      same_bits
      (by_region i k s.members t.members (λ j l. p.before j l ∙ sym (q.before j l)) (λ j l m. p.inside j l m ∙ sym (q.inside j l m))
      (λ j l. p.after j l ∙ sym (q.after j l)))
      (by_test v
      (λ y. p.grown (i + k - 1) (omega arith) y ∙ sym (q.grown (i + k - 1) (omega arith) y))
      (λ n. p.kept n ∙ sym (q.kept n)))

  pub one_field : (i v w : ℕ) → (w ≡ 0 → ⊥) → WithField i v w b s → WithField i v w b t → s ≡ t
  one_field i v w some p q =
      same_bits
      (by_region i w s.members t.members (λ j l. p.before j l ∙ sym (q.before j l)) here (λ j l. p.after j l ∙ sym (q.after j l)))
      (by_eq (v % 2 ^ w) 0
      (λ z. p.kept (zero_digit_lem v w z) ∙ sym (q.kept (zero_digit_lem v w z)))
      (λ z.
      let (j, l, y) = some_at v w z in
      p.grown j (i + w - 1) l y (omega arith) ∙ sym (q.grown j (i + w - 1) l y (omega arith))))
    where
      here : (j : ℕ) → i ≤ j → j < i + w → s.members j ≡ t.members j
      here j l m =
          ap s.members (omega arith) ∙ p.inside (j - i) (omega arith) ∙ sym (q.inside (j - i) (omega arith)) ∙ ap t.members (omega arith)

  one-listed : (is : List ℕ) → WithListed is b s → WithListed is b t → s ≡ t
  one-listed is p q =
      same_bits
      (same_set s.members t.members (λ j y. go s t p q j (p.only j y)) (λ j y. go t s q p j (q.only j y)))
      (omega (arith, p.least t.count q.from q.reached, q.least s.count p.from p.reached))
    where
      go : (s t : Bits) → WithListed is b s → WithListed is b t → (j : ℕ) → (b.members j ≡ true) ⊎ ((n : ℕ) × ((n < length is) × (get_or is n 0 ≡ j)))
          → t.members j ≡ true
      go s t p q j (inl y) = q.kept j y
      go s t p q j (inr (n, (l, e))) = ap t.members (sym e) ∙ q.all n l

  -- the set before any word is dropped
  one-alone : (i : ℕ) → OnlyBit i b s → OnlyBit i b t → s ≡ t
  one-alone i p q =
      same_bits
      (λ j. by_eq (j / 64) (i / 64)
      (λ w. by_eq j i
      (λ e. ap s.members e ∙ p.here ∙ sym q.here ∙ ap t.members (sym e))
      (λ n. p.word j w n ∙ sym (q.word j w n)))
      (λ n. p.others j n ∙ sym (q.others j n)))
      (p.count ∙ sym q.count)

-- word k has a member or none
one-tidied : (k : ℕ) (t s u : Bits) → Tidied k t s → Tidied k t u → s ≡ u
one-tidied k t s u p q =
    same_bits (λ j. p.same j ∙ sym (q.same j))
    (by_eq (suc k) t.count
    (λ e. by_lt at (64 * k + 64)
    (λ l.
    let w : at / 64 ≡ k = omega (arith, r.from) in
    p.not-empty at w (r.here l) ∙ sym (q.not-empty at w (r.here l)))
    (λ l.
    let none : (j : ℕ) → j / 64 ≡ k → t.members j ≡ false = λ j w. r.under j (omega arith) (omega arith) in
    fewest_of t.count t.members t.members s.count u.count (λ i. refl) (p.trims e none) (q.trims e none)))
    (λ n. p.not_last n ∙ sym (q.not_last n)))
  where
    at : ℕ
    at = least_from t.members (64 * k) 64

    r : Least t.members (64 * k) (64 * k + 64) at
    r = least t.members (64 * k) 64

one_then : (i : ℕ) (rule : Bits → Bits → Type 0) (b s t : Bits) → ((x y : Bits) → rule b x → rule b y → x ≡ y) → ThenTidied i rule b s → ThenTidied i rule b t → s ≡ t
one_then i rule b s t one (x, p, u) (y, q, v) =
    one-tidied (i / 64) x s t u (subst (λ (z : Bits). Tidied (i / 64) z t) (one y x q p) v)

one-without : (i : ℕ) (b s t : Bits) → WithoutBit i b s → WithoutBit i b t → s ≡ t
one-without i b s t p q = same_bits (one_bit b s t i false p.here q.here p.others q.others) (p.count ∙ sym q.count)

one-flipped : (i : ℕ) (b s t : Bits) → FlippedBit i b s → FlippedBit i b t → s ≡ t
one-flipped i b s t p q = same_bits (one_bit b s t i (not (b.members i)) p.here q.here p.others q.others) (p.count ∙ sym q.count)

region_once : (i : ℕ) (v : Bool) (k c : ℕ) (b : Bits) → (k ≡ 0 → ⊥) → OneEnd c (λ s. (i + k ≤ 2 ^ 64) × WithRegion i v k b s) (NoRegion i v k c b)
region_once i v k c b some = record { result = λ s t p q. one-region b s t i v k some p.1 q.1; number = number; apart = apart }
  where
    number : (m n : ℕ) → NoRegion i v k c b m → NoRegion i v k c b n → m ≡ n
    number m n (inl p) (inl q) = p.0 ∙ sym q.0
    number m n (inl p) (inr q) = absurd (omega (arith, p.1, q.1))
    number m n (inr p) (inl q) = absurd (omega (arith, p.1, q.1))
    number m n (inr p) (inr q) = p.0 ∙ sym q.0

    from : (s : Bits) → WithRegion i v k b s → b.count ≤ s.count
    from s p = by_test v (λ y. omega (arith, p.grown (i + k - 1) (omega arith) y)) (λ y. omega (arith, p.kept y))

    apart : (s : Bits) (m : ℕ) → (i + k ≤ 2 ^ 64) × WithRegion i v k b s → s.count ≤ c → NoRegion i v k c b m → ⊥
    apart s m p l (inl q) = absurd (omega (arith, p.0, q.1))
    apart s m p l (inr (e, h, inl q)) = absurd (omega (arith, from s p.1))
    apart s m p l (inr (e, h, inr (y, q))) = absurd (omega (arith, p.1.grown (i + k - 1) (omega arith) y))

field_once : (i value width c : ℕ) (b : Bits) → (width ≡ 0 → ⊥)
    → OneEnd c (λ s. (width ≤ 64) × (i + width ≤ 2 ^ 64) × WithField i value width b s) (NoField i value width c b)
field_once i value width c b some = record { result = λ s t p q. one_field b s t i value width some p.2 q.2; number = number; apart = apart }
  where
    number : (m n : ℕ) → NoField i value width c b m → NoField i value width c b n → m ≡ n
    number m n (inl p) (inl q) = p.0 ∙ sym q.0
    number m n (inl p) (inr (inl q)) = absurd (omega (arith, p.1, q.1))
    number m n (inl p) (inr (inr q)) = absurd (omega (arith, p.1, q.1))
    number m n (inr (inl p)) (inl q) = absurd (omega (arith, p.1, q.1))
    number m n (inr (inl p)) (inr (inl q)) = p.0 ∙ sym q.0
    number m n (inr (inl p)) (inr (inr q)) = absurd (omega (arith, p.2, q.2))
    number m n (inr (inr p)) (inl q) = absurd (omega (arith, p.1, q.1))
    number m n (inr (inr p)) (inr (inl q)) = absurd (omega (arith, p.2, q.2))
    number m n (inr (inr p)) (inr (inr q)) = p.0 ∙ sym q.0

    from : (s : Bits) → WithField i value width b s → b.count ≤ s.count
    from s p =
        by_eq (value % 2 ^ width) 0
        (λ z. omega (arith, p.kept (zero_digit_lem value width z)))
        (λ z. let (j, l, y) = some_at value width z in omega (arith, p.grown j (i + width - 1) l y (omega arith)))

    apart : (s : Bits) (m : ℕ) → (width ≤ 64) × (i + width ≤ 2 ^ 64) × WithField i value width b s → s.count ≤ c → NoField i value width c b m → ⊥
    apart s m p l (inl q) = absurd (omega (arith, p.0, q.1))
    apart s m p l (inr (inl q)) = absurd (omega (arith, p.1, q.2))
    apart s m p l (inr (inr (e, g, h, inl q))) = absurd (omega (arith, from s p.2))
    apart s m p l (inr (inr (e, g, h, inr (j, (u, y, q))))) = absurd (omega (arith, q, p.2.grown j (i + width - 1) u y (omega arith)))

many_once : (is : List ℕ) (c : ℕ) (b : Bits) → OneEnd c (WithListed is b) (LacksListed is c b)
many_once is c b = record { result = λ s t p q. one-listed b s t is p q; number = λ k l p q. p.0 ∙ sym q.0; apart = apart }
  where
    apart : (s : Bits) (m : ℕ) → WithListed is b s → s.count ≤ c → LacksListed is c b m → ⊥
    apart s m p l (e, inl q) = absurd (omega (arith, p.from))
    apart s m p l (e, inr (t, (h, q))) = absurd (omega (arith, p.reached t h))

pub calls_exact : CallsExact
calls_exact = record {
  set = λ i. once_exact (setting i) _ _ (sets i)
      (λ c b h l k. once_lacks c b (WithBit i b) (λ b. max b.count (i / 64 + 1))
      (λ s t p q. same_bits (one_bit b s t i true p.here q.here p.others q.others) (p.count ∙ sym q.count)) (λ s p. p.count));
  set_many = λ is. once_exact (setting_many is) _ _ (sets_many is) (λ c b h l k. many_once is c b);
  unset = λ i. once_exact (unsetting i) _ _ (unsets i) (λ c b h l k. once_never c b (WithoutBit i b) (one-without i b));
  trim = once_exact trimming _ _ trims
      (λ c b h l k. once_never c b (Fewest b)
      (λ s t p q. same_bits (λ i. p.same i ∙ sym (q.same i))
      (fewest_of b.count b.members b.members s.count t.count (λ i. refl) p.count q.count)));
  set_region = λ i v k some. once_exact (setting_region i v k) _ _ (regions i v k some) (λ c b h l x. region_once i v k c b some);
  set_field = λ i value width some. once_exact (setting_field i value width) _ _ (fields i value width some) (λ c b h l x. field_once i value width c b some);
  andi = λ i. once_exact (keeping_bit i) _ _ (keeps_bit i)
      (λ c b h l k. once_never c b (ThenTidied i (OnlyBit i) b) (λ s t. one_then i (OnlyBit i) b s t (λ x y. one-alone b x y i)));
  andnoti = λ i. once_exact (dropping_bit i) _ _ (drops_bit i)
      (λ c b h l k. once_never c b (ThenTidied i (WithoutBit i) b) (λ s t. one_then i (WithoutBit i) b s t (one-without i b)));
  xori = λ i. once_exact (flipping_bit i) _ _ (flips_bit i)
      (λ c b h l k. once_lacks_result c b (ThenTidied i (FlippedBit i)) (λ s t. one_then i (FlippedBit i) b s t (one-flipped i b)));
}
