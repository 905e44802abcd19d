-- What `last_set` tells its caller.
use mathlib.Core.Path.{◌≡◌, sym, ap, ◌∙◌}
use mathlib.Core.Bool.{Bool}
use mathlib.Core.List.{List}
use Prim.Native.Nat.{ℕ, suc, ◌-◌, ◌*◌}
use native.Mathlib.Omega.{arith}
use borrow.Author.Tests.{eq-eqb, ne_eqb}
use Rattle.word.specs.Sets.{choose, top_below}
use Rattle.word.proofs.Cases.{by_eq}
use Rattle.storage.specs.Stores.{Bits, checked, held, reading}
use Rattle.storage.specs.Guards.{Passed}
use Rattle.storage.specs.declared.Bitmap.{Bitmap}
use Rattle.storage.specs.declared.Refusal.{Refusal}
use Rattle.storage.proofs.Checks.{told-refused, told}
use Rattle.scans.specs.Searches.{last_set}
use Rattle.storage.specs.Refusals.{Found, passing, refusing}
use Rattle.std.specs.Prelude.{Ok, Err, Some, None}

-- which answer, and its place
abbrev tag : Found → ℕ
tag (Ok (Some p)) = 0
tag (Ok None) = 1
tag (Err e) = 2

abbrev place : Found → ℕ
place (Ok (Some p)) = p
place (Ok None) = 0
place (Err e) = 0

-- one past the greatest member, from the answer
module _ (b : Bits) where
  last_none : top_below b.members (64 * b.count) ≡ 0 → last_set b ≡ (Ok None)
  unfolding last_set
  last_none e = ap (λ (t : Bool). choose t (Ok None) (Ok (Some (top_below b.members (64 * b.count) - 1)))) (eq-eqb (top_below b.members (64 * b.count)) 0 e)

  last_some : (top_below b.members (64 * b.count) ≡ 0 → ⊥) → last_set b ≡ Ok (Some (top_below b.members (64 * b.count) - 1))
  unfolding last_set
  last_some n = ap (λ (t : Bool). choose t (Ok None) (Ok (Some (top_below b.members (64 * b.count) - 1)))) (ne_eqb (top_below b.members (64 * b.count)) 0 n)

module _ (ws : List ℕ) (a : Bitmap) where
  abbrev t : ℕ
  t = top_below (held ws a).members (64 * (held ws a).count)

  never : (b : Bits) (e : Refusal) → last_set b ≡ Err e → ⊥
  never b e q =
      by_eq (top_below b.members (64 * b.count)) 0
      (λ z. omega (arith, ap tag (sym (last_none b z) ∙ q)))
      (λ z. omega (arith, ap tag (sym (last_some b z) ∙ q)))

  pub last-refused : (e : Refusal) → Err e ≡ reading ws a Err last_set → refusing a e ≡ checked ws a (refusing a) passing
  last-refused e q = told-refused ws a Err last_set e (λ d r. cc) (λ b r. never b e (sym r)) q

  pub last-nothing : (Ok None) ≡ reading ws a Err last_set → Passed ws a × (top_below (held ws a).members (64 * (held ws a).count) ≡ 0)
  last-nothing q =
      let r = told ws a Err last_set (Ok None) (λ e s. omega (arith, ap tag s)) q in
      (r.0, by_eq t 0 (λ z. z) (λ z. absurd (omega (arith, ap tag (r.1 ∙ last_some (held ws a) z)))))

  pub last-at : (p : ℕ) → Ok (Some p) ≡ reading ws a Err last_set → Passed ws a × (top_below (held ws a).members (64 * (held ws a).count) ≡ suc p)
  last-at p q =
      let r = told ws a Err last_set (Ok (Some p)) (λ e s. omega (arith, ap tag s)) q in (
        r.0,
        by_eq t 0
            (λ z. absurd (omega (arith, ap tag (r.1 ∙ last_none (held ws a) z))))
            (λ z. omega (arith, ap place (r.1 ∙ last_some (held ws a) z))),
      )
