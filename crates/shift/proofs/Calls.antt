-- A call that moves the members within the length, from what its kernel left of the words in use.
use mathlib.Core.Path.{◌≡◌, sym, ap, ap₂, ◌∙◌}
use mathlib.Core.Bool.{Bool, ◌&&◌}
use mathlib.Core.List.{List, ◌++◌}
use Prim.Native.Nat.{ℕ, ◌*◌}
use native.Mathlib.Omega.{arith}
use borrow.Author.Tests.{lt-ltb}
use lib.ListN.{length, take, drop}
use lib.Seq.{length-take-le}
use Rattle.word.specs.Places.{member, words_of}
use Rattle.storage.specs.Stores.{done, Op, space_of, view, held, Changes}
use Rattle.storage.specs.Guards.{Passed}
use Rattle.storage.specs.declared.Bitmap.{Bitmap}
use Rattle.storage.proofs.Views.{view-count, view-whole}
use Rattle.storage.proofs.Stores.{part-changes}
use Rattle.shifts.specs.Shifts.{kept}
use Rattle.std.specs.Prelude.{Ok}

-- f makes the set from the length and the old set
pub kept-changes : (op : Op) (f : ℕ → (ℕ → Bool) → ℕ → Bool) (ws part : List ℕ) (b : Bitmap) → Passed ws b
    → op (space_of ws) (held ws b) ≡ done (kept (f (64 * (held ws b).count) (held ws b).members) (held ws b))
    → part ≡ words_of (f (64 * length (take b.count ws)) (member (take b.count ws))) (length (take b.count ws))
    → Changes op ws b (Ok b) (part ++ drop b.count ws)
kept-changes op f ws part b p q e =
    part-changes op ws part b (f (64 * length (take n ws)) (member (take n ws))) (kept (f (64 * (view ws n).count) (view ws n).members) (view ws n)) p q
    (view-count ws n) e
    (λ i l.
    ap₂ (λ (m : ℕ) (s : ℕ → Bool). f (64 * m) s i) (length-take-le n ws p.inside ∙ sym (view-count ws n)) (sym (view-whole ws n p.inside))
    ∙ ap (λ (t : Bool). t && f (64 * (view ws n).count) (view ws n).members i) (sym (lt-ltb i (64 * (view ws n).count) (omega (arith, view-count ws n)))))
  where
    n : ℕ
    n = b.count
