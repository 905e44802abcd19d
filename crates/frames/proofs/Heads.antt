-- The head of a sheet.
use Prim.Native.Nat.{ℕ, ◌≤◌, ◌<◌}
use mathlib.Core.Path.{◌≡◌, sym, ap, ◌∙◌}
use mathlib.Core.Bool.{Bool, true, false, not, ◌&&◌, false≢true}
use mathlib.Core.List.{List}
use lib.ListN.{length, get_or}
use Rattle.word.proofs.Cases.{by_lt}
use lib.Dec.{eqb}
use borrow.Author.Tests.{lt-leb}
use Rattle.editions.specs.Frames.{headed}

module _ (s : List ℕ) where
  pub head_short : length s < 4 → false ≡ headed s
  head_short h = sym (ap (λ (t : Bool). t && (eqb (get_or s 0 0) 78 && eqb (get_or s 1 0) 83)) (lt-leb 4 (length s) h))

  pub head_long : headed s ≡ true → 4 ≤ length s
  head_long e = by_lt (length s) 4 (λ h. absurd (false≢true (head_short h ∙ e))) (λ h. h)

  -- what `!has_head` tells
  pub told_no : (t : Bool) → t ≡ headed s → not t ≡ true → headed s ≡ false
  told_no true e p = absurd (false≢true p)
  told_no false e p = sym e

  pub told_yes : (t : Bool) → t ≡ headed s → not t ≡ false → headed s ≡ true
  told_yes true e p = sym e
  told_yes false e p = absurd (false≢true (sym p))
