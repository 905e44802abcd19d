-- What an outcome tells, and operations whose results have space and hold no member past their words.
use mathlib.Core.Path.{◌≡◌, refl, sym, ap, ap₂, ◌∙◌, subst}
use mathlib.Core.List.{List}
use Prim.Native.Nat.{ℕ, ◌≤◌, ◌<◌}
use native.Mathlib.Omega.{arith}
use borrow.Author.Tests.{ne_eqb}
use Rattle.word.specs.Sets.{xorb}
use Rattle.word.proofs.Cases.{by_lt, zero_one}
use Rattle.pairs.specs.Pairs.{table_of}
use Rattle.pairs.specs.declared.SetOp.{SetOp}
use Rattle.pairs.proofs.Tables.{none_none}
use Rattle.storage.specs.Refusals.{number_of}
use Rattle.storage.specs.Stores.{Bits, Bounded, Outcome, refused, done, Space, Op, checked, held, beside, within, flipped, combined}
use Rattle.storage.specs.Guards.{Passed}
use Rattle.storage.specs.Promises.{Contained, Meets, Unchanged, Never}
use Rattle.storage.specs.declared.Bitmap.{Bitmap}
use Rattle.storage.specs.declared.Refusal.{Refusal}
use Rattle.storage.proofs.Checks.{checked_ok, by_guard, within_ok, within_no, within_done}
use Rattle.storage.proofs.Views.{bounded_view}

pub same : {b s : Bits} → done b ≡ done s → b ≡ s
same e = cc

pub never : {b : Bits} {e : Refusal} → done b ≡ refused e → ⊥
never q = zero_one cc

pub which : {d e : Refusal} → refused d ≡ refused e → d ≡ e
which q = cc

-- an outcome is one or the other
pub by_outcome {ℓ} : {A : Type ℓ} (o : Outcome) → ((s : Bits) → o ≡ done s → A) → ((e : Refusal) → o ≡ refused e → A) → A
by_outcome (refused e) f g = g e refl
by_outcome (done s) f g = f s refl

-- a result that was refused for space has too many words
pub lacks : (c : Space) (b : Bits) (e : Refusal) → within c b ≡ refused e → (number_of e ≡ 6) × (c < b.count)
lacks c b e q =
    by_lt c b.count
    (λ h. (ap number_of (which (sym q ∙ within_no c b h)), h))
    (λ h. absurd (never (sym (within_ok c b h) ∙ q)))

-- what the guard lets pass
pub let_pass : (ws : List ℕ) (b : Bitmap) (o : Outcome) (s : Bits) → checked ws b refused o ≡ done s → (o ≡ done s) × Passed ws b
let_pass ws b o s q = by_guard ws b (λ e p. absurd (never (sym q ∙ p _ refused o))) (λ p. (sym (checked_ok ws b refused o p) ∙ q, p))

pub bounded_flipped : (i : ℕ) (b : Bits) → Bounded b → Bounded (flipped i b)
bounded_flipped i b h = record { past = λ j l. ap₂ xorb (h.past j (omega arith)) (ne_eqb j i (omega arith)) }

-- ---- operations whose results have space

pub bounded_combined : (op : SetOp) (b o : Bits) → Bounded b → Bounded o → Bounded (combined op b o)
unfolding combined
bounded_combined op b o h k = record { past = λ i l. ap₂ (table_of op) (h.past i (omega arith)) (k.past i (omega arith)) ∙ none_none op }

-- a result and its space
pub contained_within : (op : Op) (f : Bits → Bits) → ((c : Space) (b : Bits) → op c b ≡ within c (f b)) → ((b : Bits) → Bounded b → Bounded (f b)) → Contained op
contained_within op f e g = record {
  space = λ c b s h l q. let w = within_done c (f b) s (sym (e c b) ∙ q) in subst (λ (x : Bits). x.count ≤ c) w.0 w.1;
  bound = λ c b s h l q. let w = within_done c (f b) s (sym (e c b) ∙ q) in subst Bounded w.0 (g b h);
}

-- a result of no more words than there were
pub contained_done : (op : Op) (f : Bits → Bits) → ((c : Space) (b : Bits) → op c b ≡ done (f b)) → ((b : Bits) → (f b).count ≤ b.count)
    → ((b : Bits) → Bounded b → Bounded (f b)) → Contained op
contained_done op f e k g = record {
  space = λ c b s h l q. subst (λ (x : Bits). x.count ≤ c) (same (sym (e c b) ∙ q)) (omega (arith, k b));
  bound = λ c b s h l q. subst Bounded (same (sym (e c b) ∙ q)) (g b h);
}

-- an operation that does nothing
pub meets_nothing : (op : Op) → ((c : ℕ) (b : Bits) → op c b ≡ done b) → Meets op Unchanged Never
meets_nothing op e = record {
  made = λ c b s q. sym (same (sym (e c b) ∙ q));
  contained = contained_done op (λ b. b) e (λ b. omega arith) (λ b h. h);
  why = λ c b k q. never (sym (e c b) ∙ q);
}

-- a second bitmap, looked at after the first
pub contained_beside : (os : List ℕ) (o : Bitmap) (op : Bits → Op) → ((o : Bits) → Bounded o → Contained (op o)) → Contained (beside os o op)
unfolding beside
contained_beside os o op f = record {
  space = λ c b s h l q. (f (held os o) (bounded_view os o.count)).space c b s h l (let_pass os o (op (held os o) c b) s q).0;
  bound = λ c b s h l q. (f (held os o) (bounded_view os o.count)).bound c b s h l (let_pass os o (op (held os o) c b) s q).0;
}
