-- Whatever a sheet's edits make of a bitmap in a store has space there and holds no member past its words, and a refused step gets 6.
use Prim.Native.Nat.{ℕ, ◌≤◌}
use mathlib.Core.Path.{◌≡◌, refl, subst}
use mathlib.Core.List.{List, [], ◌∷◌}
use Rattle.storage.specs.Refusals.{number_of}
use Rattle.storage.specs.Stores.{Bits, Bounded, store_limit}
use Rattle.storage.specs.declared.Refusal.{Refusal}
use Rattle.sheet.specs.Kinds.{Ranged}
use Rattle.editions.specs.Reader.{Turn, stop, next}
use Rattle.editions.specs.Meaning.{onward, effect}
use Rattle.sheet.specs.Reads.{step, edition_of}
use Rattle.sheet.specs.declared.Edit.{Edit}
use Rattle.editions.proofs.Turns.{stop_next, next_inj}
use Rattle.sheet.proofs.Steps.{contained_step, made_next, steps_exact}

pub record KeptIn (c : ℕ) (b : Bits) : Type 0 where
  pub bounded : Bounded b
  pub space : b.count ≤ c

module _ (c n : ℕ) where
  pub step_kept : (k : ℕ) (e : Edit) (b s : Bits) → KeptIn c b → (edition_of c n).step k e b ≡ next s → KeptIn c s
  unfolding edition_of
  step_kept k e b s h q =
      let p = (made_next (step e c b) s).0 q in
      record { bounded = (contained_step e).bound c b s h.bounded h.space p; space = (contained_step e).space c b s h.bounded h.space p }

  pub effect_kept : (es : List (ℕ × Edit)) (b s : Bits) → KeptIn c b → effect (edition_of c n) es b ≡ next s → KeptIn c s
  unfolding effect
  effect_kept [] b s h q = subst (KeptIn c) (next_inj q) h
  effect_kept ((k, e) ∷ es) b s h q = go (λ t u. effect_kept es t s u) ((edition_of c n).step k e b) refl q
    where
      go : ((t : Bits) → KeptIn c t → effect (edition_of c n) es t ≡ next s → KeptIn c s) → (o : Turn Bits) → (edition_of c n).step k e b ≡ o → onward (effect (edition_of c n) es) o ≡ next s → KeptIn c s
      go ih (stop x) p q = absurd (stop_next q)
      go ih (next t) p q = ih t (step_kept k e b t h p) q

  -- a step's own number
  pub step_stops : (k : ℕ) (e : Edit) (b : Bits) (x : Refusal) → c ≤ store_limit → KeptIn c b → Ranged e → (edition_of c n).step k e b ≡ stop x → number_of x ≡ 6
  step_stops k e b x l h r q = (((steps_exact n c e b l h.bounded h.space r).refused_is k x).0 q).0
