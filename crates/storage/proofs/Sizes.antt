-- How many members the words in use have.
use mathlib.Core.Path.{◌≡◌, sym, ap, ◌∙◌}
use mathlib.Core.List.{List}
use Prim.Native.Nat.{ℕ, ◌*◌, ◌≤◌}
use native.Mathlib.Omega.{arith}
use lib.ListN.{length, take}
use lib.Seq.{length-take-le}
use Rattle.word.specs.Sets.{count_below}
use Rattle.word.specs.Places.{member}
use Rattle.word.proofs.Sets.{count_ext}
use Rattle.arch.specs.Scans.{count_set}
use Rattle.arch.proofs.Promises.{count_is_whole}
use Rattle.storage.specs.Stores.{view, held, size}
use Rattle.storage.specs.Guards.{Passed}
use Rattle.storage.specs.declared.Bitmap.{Bitmap}
use Rattle.storage.proofs.Views.{view-count, view-part}

pub size-part : (ws : List ℕ) (n : ℕ) → n ≤ length ws → size (view ws n) ≡ count_below (member (take n ws)) (64 * n)
unfolding size
size-part ws n h =
    ap (λ (m : ℕ). count_below (view ws n).members (64 * m)) (view-count ws n)
    ∙ count_ext (view ws n).members (member (take n ws)) (64 * n) (λ i l. view-part ws n i h)

-- what the kernel counts is the size, within the limit
pub size-counted : (ws : List ℕ) (b : Bitmap) → Passed ws b → count_set (take b.count ws) ≡ size (held ws b)
size-counted ws b p =
    let n : ℕ = b.count in
    let e : length (take n ws) ≡ n = length-take-le n ws p.inside in
    count_is_whole (take n ws) (omega (arith, p.short, p.inside))
    ∙ ap (λ (m : ℕ). count_below (member (take n ws)) (64 * m)) e ∙ sym (size-part ws n p.inside)
