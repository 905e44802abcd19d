-- What a call answers where `grow` refuses it.
use mathlib.Core.Path.{◌≡◌, sym, ap, ◌∙◌, subst}
use mathlib.Core.List.{List}
use Prim.Native.Nat.{ℕ}
use Rattle.std.specs.Prelude.{Err, IsErr, IsErrAnd}
use Rattle.storage.specs.Refusals.{Change, refusing}
use Rattle.storage.specs.Stores.{Op, Changes, Grows}
use Rattle.storage.specs.declared.Bitmap.{Bitmap}
use Rattle.storage.specs.declared.Refusal.TheVariants.{NoSpace}
use Rattle.storage.specs.declared.Refused.{Refused}
use Rattle.storage.proofs.Checks.{raised}

pub no_room : (op : Op) (ws ws' : List ℕ) (b : Bitmap) (need : ℕ) {r : Change} {e : Refused} → IsErr r × IsErrAnd r (λ x. x ≡ e)
    → Grows ws b need (Err e) ws' → Changes op ws b (refusing b NoSpace) ws → Changes op ws b r ws'
no_room op ws ws' b need {r} {e} q g h =
    subst (λ (x : List ℕ). Changes op ws b r x) (sym g.1) (subst (λ (x : Change). Changes op ws b x ws) (sym (raised q ∙ ap Err g.2)) h)
