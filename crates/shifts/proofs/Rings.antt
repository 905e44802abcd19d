-- Places on a ring of any length, and sets that are turned on it.
use mathlib.Core.Path.{◌≡◌, sym, ap, ◌∙◌}
use mathlib.Core.Bool.{Bool}
use mathlib.Core.Logic.{◌⊎◌, inl, inr}
use Prim.Native.Nat.{ℕ, ◌+◌, ◌-◌, ◌%◌, ◌<◌}
use native.Mathlib.Nat.{mod-lt, mod-eq_of_lt, mod-mod, mod-add-mod, add-mod-mod, add-mod_right}
use native.Mathlib.Omega.{arith}
use Rattle.shifts.specs.Shifts.{turned_up, turned_down}

-- from where i came, k on is i
pub there : (len k i : ℕ) → i < len → ((i + (len - k % len)) % len + k) % len ≡ i
there len k i l =
    mod-add-mod (i + (len - k % len)) len k
    ∙ sym (add-mod-mod (i + (len - k % len)) k len)
    ∙ ap (λ (x : ℕ). x % len) (omega (arith, mod-lt k {m = len} (omega arith)))
    ∙ add-mod_right i len ∙ mod-eq_of_lt l

-- where i goes, what k leaves of the length on is i
pub back : (len k i : ℕ) → i < len → ((i + k) % len + (len - k % len)) % len ≡ i
back len k i l =
    mod-add-mod (i + k) len (len - k % len)
    ∙ ap (λ (x : ℕ). x % len) (omega arith)
    ∙ sym (add-mod-mod (i + (len - k % len)) k len)
    ∙ ap (λ (x : ℕ). x % len) (omega (arith, mod-lt k {m = len} (omega arith)))
    ∙ add-mod_right i len ∙ mod-eq_of_lt l

module _ (len : ℕ) (s : ℕ → Bool) where
  -- what stands at i after a turn came from the q that goes there
  pub turned_from : (k i q : ℕ) → q < len → (q + k) % len ≡ i → turned_up len k s i ≡ s q
  unfolding turned_up
  turned_from k i q l e = ap (λ (x : ℕ). s ((x + (len - k % len)) % len)) (sym e) ∙ ap s (back len k q l)

  -- by an amount within the length, once round or not
  pub turned_by : (k i q : ℕ) → q < len → i < len → (q + k ≡ i) ⊎ (q + k ≡ i + len) → turned_up len k s i ≡ s q
  turned_by k i q l h (inl e) = turned_from k i q l (ap (λ (x : ℕ). x % len) e ∙ mod-eq_of_lt h)
  turned_by k i q l h (inr e) = turned_from k i q l (ap (λ (x : ℕ). x % len) e ∙ add-mod_right i len ∙ mod-eq_of_lt h)

  -- whole rounds do not count
  pub turned_rest : (k i : ℕ) → turned_up len k s i ≡ turned_up len (k % len) s i
  unfolding turned_up
  turned_rest k i = ap (λ (x : ℕ). s ((i + (len - x)) % len)) (sym (mod-mod k len))

  -- two turns are one by the sum
  pub turned_twice : (a b i : ℕ) → i < len → turned_up len b (turned_up len a s) i ≡ turned_up len (a + b) s i
  unfolding turned_up
  turned_twice a b i l =
      let p : ℕ = (i + (len - b % len)) % len in
      let q : ℕ = (p + (len - a % len)) % len in
      let pos : 0 < len = omega arith in
      sym
      (turned_from (a + b) i q (mod-lt (p + (len - a % len)) pos)
      (ap (λ (x : ℕ). x % len) (omega arith) ∙ sym (mod-add-mod (q + a) len b)
      ∙ ap (λ (x : ℕ). (x + b) % len) (there len a p (mod-lt (i + (len - b % len)) pos)) ∙ there len b i l))

  -- what stands at i after a turn down came from i + k, once round or not
  pub sunk_by : (k i q : ℕ) → q < len → (i + k ≡ q) ⊎ (i + k ≡ q + len) → turned_down len k s i ≡ s q
  unfolding turned_down
  sunk_by k i q l (inl e) = ap s (ap (λ (x : ℕ). x % len) e ∙ mod-eq_of_lt l)
  sunk_by k i q l (inr e) = ap s (ap (λ (x : ℕ). x % len) e ∙ add-mod_right q len ∙ mod-eq_of_lt l)
