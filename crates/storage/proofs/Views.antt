-- The first words of a store, as a set.
use mathlib.Core.Path.{◌≡◌, refl, sym, ap, ◌∙◌, fun_ext}
use mathlib.Core.Bool.{Bool, false, ◌&&◌}
use mathlib.Core.List.{List}
use Prim.Native.Nat.{ℕ, ◌+◌, ◌*◌, ◌/◌, ◌%◌, ◌≤◌, ◌<◌}
use native.Mathlib.Omega.{arith}
use lib.ListN.{length, get_or, take}
use lib.Seq.{get_or-take, length-take-le}
use borrow.Author.Tests.{lt-ltb, le-ltb}
use Rattle.word.specs.Places.{bit, member}
use Rattle.word.proofs.Cases.{by_lt}
use Rattle.word.proofs.Lists.{at-word, member-at, member-past}
use Rattle.storage.specs.Stores.{Bounded, view}

pub view-count : (ws : List ℕ) (n : ℕ) → (view ws n).count ≡ n
unfolding view
view-count ws n = refl

pub view_in : (ws : List ℕ) (n k j : ℕ) → k < n → j < 64 → (view ws n).members (64 * k + j) ≡ bit (get_or ws k 0) j
unfolding view
view_in ws n k j h l = rw (at-word k j l, lt-ltb k n h) (member-at ws k j l)

pub view_out : (ws : List ℕ) (n i : ℕ) → 64 * n ≤ i → (view ws n).members i ≡ false
unfolding view
view_out ws n i h = ap (λ (t : Bool). t && member ws i) (le-ltb (i / 64) n (omega arith))

pub view-at : (ws : List ℕ) (n i : ℕ) → i < 64 * n → (view ws n).members i ≡ member ws i
unfolding view
view-at ws n i h = ap (λ (t : Bool). t && member ws i) (lt-ltb (i / 64) n (omega arith))

pub bounded_view : (ws : List ℕ) (n : ℕ) → Bounded (view ws n)
unfolding view
bounded_view ws n = record { past = λ i h. view_out ws n i h }

-- a view is the set of the store's front part
pub view-part : (ws : List ℕ) (n i : ℕ) → n ≤ length ws → (view ws n).members i ≡ member (take n ws) i
unfolding member
view-part ws n i h =
    by_lt i (64 * n)
    (λ l. view-at ws n i l ∙ ap (λ (x : ℕ). bit x (i % 64)) (sym (get_or-take n ws (i / 64) 0 (omega arith))))
    (λ l. view_out ws n i l ∙ sym (member-past (take n ws) i (omega (arith, length-take-le n ws h))))

pub view-whole : (ws : List ℕ) (n : ℕ) → n ≤ length ws → (view ws n).members ≡ member (take n ws)
view-whole ws n h = fun_ext (λ i. view-part ws n i h)
