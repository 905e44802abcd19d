-- The promises of specs/Promises.
use mathlib.Core.Path.{◌≡◌, refl, sym, ap, ◌∙◌, subst}
use mathlib.Core.Bool.{Bool, true, false, not}
use mathlib.Core.Logic.{inl, inr}
use Prim.Native.Nat.{ℕ, zero, suc, ◌+◌, ◌-◌, ◌*◌, ◌≤◌, ◌<◌}
use native.Mathlib.Nat.{not-suc-le-zero}
use native.Mathlib.Omega.{arith}
use lib.Dec.{eqb}
use borrow.Author.Tests.{ne_eqb, not-true, not-false}
use Rattle.word.specs.Sets.{choose, val, count_below, least_from, top_below, Least, Top}
use Rattle.word.proofs.Cases.{by_lt, by_eq}
use Rattle.word.proofs.Sets.{count_ext, count_flat, counted, least, top}
use Rattle.storage.specs.Refusals.{answer_number, found_flag, found_value}
use Rattle.storage.specs.Stores.{Bits, Bounded, size, next_from}
use Rattle.storage.specs.Promises.{Hands, NextMember}
use Rattle.storage.proofs.Combined.{size_none, none_of_size}
use Rattle.storage.proofs.Promises.{amount-call, found-call, next-member}
use Rattle.scans.specs.Searches.{last_set, next_clear}
use Rattle.scans.specs.Promises.{NextSetMeans, FirstSetMeans, LastMember, LastSetMeans, NextOther, NextClearMeans, FirstClearMeans}
use Rattle.scans.specs.Promises.{AllCounted, CountSetBitsMeans, CountsMembers}
use Rattle.storage.specs.Refusals.{Found}
use Rattle.std.specs.Prelude.{Ok, Some, None}

-- ---- scans

pub next_set_means : NextSetMeans
next_set_means i = found-call (λ s. next_from s i) (λ b. NextMember b.members i) (λ b bounded. next-member b bounded i)

pub first_set_means : FirstSetMeans
first_set_means = next_set_means 0

module _ (b : Bits) (bounded : Bounded b) where
  last-member : LastMember b (answer_number (last_set b)) (found_flag (last_set b)) (found_value (last_set b))
  unfolding last_set
  last-member = go (top_below b.members (64 * b.count)) (top b.members (64 * b.count))
    where
      is : Found → Type 0
      is a = LastMember b (answer_number a) (found_flag a) (found_value a)

      over : (t : ℕ) → Top b.members (64 * b.count) t → (q : ℕ) → t ≤ q → b.members q ≡ false
      over t r q l = by_lt q (64 * b.count) (λ m. r.over q l m) (λ m. bounded.past q m)

      go : (t : ℕ) → Top b.members (64 * b.count) t → is (choose (eqb t 0) (Ok None) (Ok (Some (t - 1))))
      go zero r = (refl, inr (refl, refl, λ q. over 0 r q (omega arith)))
      go (suc k) r =
          subst is (sym (ap (λ (t : Bool). choose t (Ok None) (Ok (Some (suc k - 1)))) (ne_eqb (suc k) 0 (omega arith))))
          (refl, inl (refl, (r.last (suc k - 1) (omega arith), λ q l. over (suc k) r q (omega arith))))

  pub next_other : (i : ℕ) → NextOther b i (next_clear b i)
  unfolding next_clear
  next_other i = record {
    from = r.from;
    other = by_lt p e (λ h. not-true (b.members p) (r.here (omega arith))) (λ h. bounded.past p h);
    between = λ q l m. not-false (b.members q) (r.under q l m);
    past = λ h. omega (arith, r.from, r.within);
  }
    where
      e : ℕ
      e = 64 * b.count

      p : ℕ
      p = least_from (λ q. not (b.members q)) i (e - i)

      r : Least (λ q. not (b.members q)) i (i + (e - i)) p
      r = least (λ q. not (b.members q)) i (e - i)

pub last_set_means : LastSetMeans
last_set_means = found-call last_set LastMember last-member

pub next_clear_means : NextClearMeans
next_clear_means i = amount-call (λ s. Ok (next_clear s i)) (λ b. Hands (NextOther b i)) (λ b bounded. (refl, next_other b bounded i))

pub first_clear_means : FirstClearMeans
first_clear_means = next_clear_means 0

-- ---- the count

one_more : (s t : ℕ → Bool) (p m : ℕ) → p < m → t p ≡ false → s p ≡ true → ((q : ℕ) → (q ≡ p → ⊥) → s q ≡ t q) → count_below s m ≡ suc (count_below t m)
unfolding count_below
one_more s t p zero l out has same = absurd (not-suc-le-zero l)
one_more s t p (suc m) l out has same =
    by_eq p m
    (λ e.
    omega
    (arith, ap val (sym (ap s e) ∙ has), ap val (sym (ap t e) ∙ out), count_ext s t m (λ q h. same q (omega arith))))
    (λ e. omega (arith, ap val (same m (λ q. e (sym q))), one_more s t p m (omega arith) out has same))

pub counts_members : CountsMembers
unfolding size
counts_members = record {
  empty = none_of_size;
  zero = size_none;
  more = λ b s p e l out has same.
      ap (λ (n : ℕ). count_below s.members (64 * n)) e ∙ one_more s.members b.members p (64 * b.count) l out has same;
}

pub all-counted : (b : Bits) → Bounded b → AllCounted b (size b)
unfolding size
all-counted b bounded e h = counted b.members e (size b) (count_flat b.members (64 * b.count) e h bounded.past)

pub count_set_bits_means : CountSetBitsMeans
count_set_bits_means = amount-call (λ s. Ok (size s)) (λ b. Hands (AllCounted b)) (λ b bounded. (refl, all-counted b bounded))
