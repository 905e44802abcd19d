-- 1 and 2 of the store that is written and of the two that are read.
use mathlib.Core.Path.{◌≡◌, sym, ap, ◌∙◌, subst}
use mathlib.Core.List.{List}
use Prim.Native.Nat.{ℕ}
use Rattle.std.specs.Prelude.{Err, IsErr, IsErrAnd}
use Rattle.storage.specs.Stores.{Bits, refused, Space, Op, checked, held, beside, outcome, Changes}
use Rattle.storage.specs.Guards.{Passed}
use Rattle.storage.specs.declared.Bitmap.{Bitmap}
use Rattle.storage.specs.declared.Refused.{Refused}
use Rattle.storage.specs.Refusals.{Change, passing, refusing}
use Rattle.storage.proofs.Checks.{stopped_three, raised, beside_ok}
use Rattle.storage.proofs.Stores.{leaves_refused}
use Rattle.combine.specs.Combine.{beside_both}

module _ (ws left right : List ℕ) (b l r : Bitmap) (op : Bits → Bits → Op) where
  pub three_raised : {a : Change} {e : Refused} → IsErr a × IsErrAnd a (λ x. x ≡ e)
      → Err e ≡ checked ws b (refusing b) (checked left l (refusing b) (checked right r (refusing b) passing))
      → Changes (beside_both left l right r op) ws b a ws
  unfolding beside_both beside outcome
  three_raised {a} {e} q p =
      let back : Err e ≡ refusing b e.0 = p ∙ stopped_three ws b left l right r e (refusing b) passing p in
      let same : e.1 ≡ b = cc in
      subst (λ (x : Change). Changes (beside_both left l right r op) ws b x ws) (sym (raised q ∙ ap (λ (x : Bitmap). refusing x e.0) same))
      (leaves_refused (stopped_three ws b left l right r e refused _ p))

  pub both_ok : (c : Space) (s : Bits) → Passed left l → Passed right r → beside_both left l right r op c s ≡ op (held left l) (held right r) c s
  unfolding beside_both
  both_ok c s p q = beside_ok left l (λ x. beside right r (op x)) c s p ∙ beside_ok right r (op (held left l)) c s q
