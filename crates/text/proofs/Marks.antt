-- Words in which ranges are set, one after the other.
use mathlib.Core.Path.{◌≡◌, refl, sym, ap, ap₂, ◌∙◌}
use mathlib.Core.Bool.{Bool, true, false, ◌&&◌, ◌||◌, or_assoc}
use mathlib.Core.List.{List, [], ◌∷◌, ◌++◌}
use Prim.Native.Nat.{ℕ, ◌+◌, ◌*◌, ◌≤◌, ◌<◌}
use native.Mathlib.Omega.{arith}
use lib.Dec.{ltb, leb}
use lib.ListN.{length}
use borrow.Author.Tests.{lt-ltb, le-ltb, le-leb, lt-leb}
use Rattle.word.specs.Sets.{choose}
use Rattle.word.specs.Places.{member}
use Rattle.word.proofs.Cases.{by_lt, or-false, or-true}
use Rattle.word.proofs.Lists.{Fit, member-at, length_words, words_fit, words_is, member_words}
use Rattle.arch.specs.Scans.{filled}
use Rattle.text.specs.Lists.{Range, range, covers}
use Rattle.text.specs.Kernels.{marked}

-- i lies in the range
abbrev pub between_marks : ℕ → ℕ → ℕ → Bool
between_marks a b i = leb a i && leb i b

pub between_in : (a b i : ℕ) → a ≤ i → i ≤ b → between_marks a b i ≡ true
between_in a b i h l = ap (λ (t : Bool). t && leb i b) (le-leb a i h) ∙ le-leb i b l

pub covers-end : (rs : List Range) (a b i : ℕ) → covers (rs ++ range a b ∷ []) i ≡ covers rs i || between_marks a b i
unfolding covers
covers-end [] a b i = or-false (between_marks a b i)
covers-end (q ∷ rs) a b i =
    ap (λ (t : Bool). between_marks q.low q.high i || t) (covers-end rs a b i)
    ∙ sym (or_assoc (between_marks q.low q.high i) (covers rs i) (between_marks a b i))

pub marked_none : (ws : List ℕ) → Fit ws → ws ≡ marked [] ws
unfolding marked covers
marked_none ws f = words_is (length ws) (λ i. member ws i || false) ws refl (λ k l. f k) (λ k j l m. sym (or-false (member ws (64 * k + j)) ∙ member-at ws k j m))

pub length_marked : (rs : List Range) (ws : List ℕ) → length (marked rs ws) ≡ length ws
unfolding marked
length_marked rs ws = length_words (λ i. member ws i || covers rs i) (length ws)

pub member-marked : (rs : List Range) (ws : List ℕ) (i : ℕ) → i < 64 * length ws → member (marked rs ws) i ≡ member ws i || covers rs i
unfolding marked
member-marked rs ws i h = member_words (λ i. member ws i || covers rs i) (length ws) i h

up_to_lem : (a b i : ℕ) → leb a i && ltb i (b + 1) ≡ between_marks a b i
up_to_lem a b i =
    ap (λ (t : Bool). leb a i && t)
    (by_lt b i (λ h. le-ltb i (b + 1) (omega arith) ∙ sym (lt-leb i b h)) (λ h. lt-ltb i (b + 1) (omega arith) ∙ sym (le-leb i b h)))

chosen_or : (t x y : Bool) → choose t true (x || y) ≡ x || (y || t)
chosen_or true x y = sym (ap (λ (z : Bool). x || z) (or-true y) ∙ or-true x)
chosen_or false x y = ap (λ (z : Bool). x || z) (sym (or-false y))

pub marked_more : (rs : List Range) (a b : ℕ) (ws ws' us : List ℕ) → ws' ≡ marked rs ws → us ≡ filled a (b + 1) true ws' → us ≡ marked (rs ++ range a b ∷ []) ws
unfolding marked filled
marked_more rs a b ws ws' us e f =
    words_is (length ws) s us long
    (λ k l. rw f (words_fit t (length ws') k))
    (λ k j l m. sym (member-at us k j m) ∙ at (64 * k + j) (omega arith))
  where
    s : ℕ → Bool
    s i = member ws i || covers (rs ++ range a b ∷ []) i

    t : ℕ → Bool
    t i = choose (leb a i && ltb i (b + 1)) true (member ws' i)

    same : length ws' ≡ length ws
    same = ap length e ∙ length_marked rs ws

    long : length us ≡ length ws
    long = ap length f ∙ length_words t (length ws') ∙ same

    at : (i : ℕ) → i < 64 * length ws → member us i ≡ s i
    at i h =
        ap (λ (y : List ℕ). member y i) f ∙ member_words t (length ws') i (omega (arith, same))
        ∙ ap₂ (λ (x y : Bool). choose x true y) (up_to_lem a b i) (ap (λ (y : List ℕ). member y i) e ∙ member-marked rs ws i h)
        ∙ chosen_or (between_marks a b i) (member ws i) (covers rs i)
        ∙ ap (λ (x : Bool). member ws i || x) (sym (covers-end rs a b i))
