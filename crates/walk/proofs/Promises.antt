-- The promise of specs/Promises.
use mathlib.Core.Path.{refl, sym, subst, fun_ext}
use mathlib.Core.Bool.{Bool}
use Prim.Native.Nat.{ℕ}
use Rattle.storage.specs.Refusals.{answer_number, found_flag, found_value}
use Rattle.storage.specs.Stores.{held, combined, next_from}
use Rattle.storage.specs.Promises.{GuardedBoth, FindsNone, NextMember}
use Rattle.storage.proofs.Outcomes.{bounded_combined}
use Rattle.storage.proofs.Promises.{both_means, next-member}
use Rattle.storage.proofs.Combined.{made_is}
use Rattle.walk.specs.Walks.{walk_of}
use Rattle.walk.specs.Promises.{WalkMeans}
use Rattle.std.specs.Prelude.{Err}

pub walk_means : WalkMeans
unfolding walk_of
walk_means op ws b os o i r e s h =
    subst
    (λ (m : ℕ → Bool). GuardedBoth ws b os o (FindsNone (answer_number r) (found_flag r) (found_value r)) (NextMember m i (answer_number r) (found_flag r) (found_value r)))
    (sym (fun_ext (made_is op (held ws b) (held os o) s h)))
    (both_means Err (λ s t. next_from (combined op s t) i) (λ r. FindsNone (answer_number r) (found_flag r) (found_value r))
    (λ s t r. NextMember (combined op s t).members i (answer_number r) (found_flag r) (found_value r)) (λ e. (refl, refl, refl))
    (λ s t h k. next-member (combined op s t) (bounded_combined op s t h k) i) ws b os o r e)
