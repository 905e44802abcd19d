-- A rank passed word by word, and the member that has it.
use mathlib.Core.Path.{◌≡◌, refl, sym, ap, ◌∙◌, subst}
use mathlib.Core.Bool.{Bool}
use mathlib.Core.List.{List, []}
use Prim.Native.Nat.{ℕ, zero, suc, ◌+◌, ◌-◌, ◌*◌, ◌/◌, ◌^◌, ◌≤◌, ◌<◌}
use native.Mathlib.Omega.{arith}
use lib.ListN.{length, get_or, take, drop}
use lib.Seq.{length-take-le, get_or-take}
use lib.Dec.{ltb}
use borrow.Author.Tests.{lt-ltb, le-ltb}
use Rattle.word.specs.Sets.{choose, count_below, nth}
use Rattle.word.specs.Places.{bit, member}
use Rattle.word.proofs.Sets.{Nth, count_ext, count_add, nth_is, nth_none, nth_has}
use Rattle.arch.specs.Scans.{count_set}
use Rattle.arch.proofs.Counts.{count_word}
use Rattle.storage.specs.Stores.{view, found_below}
use Rattle.storage.proofs.Views.{view-count, view-part, view_in}
use Rattle.bitwise.specs.Bitwise.{selected}
use Rattle.bits.specs.Kernels.{Passing, Meets}
use Rattle.bits.proofs.Counts.{whole_words}
use Rattle.std.specs.Prelude.{Ok, Some, None}
use Rattle.std.specs.Simd.{first_chunks}
use Rattle.std.proofs.lemmas.List.{drop-drop}

pub pass_none : (ws : List ℕ) (r : ℕ) → Passing ws r 0 r
unfolding count_below
pass_none ws r = record { inside = omega arith; passed = omega arith }

-- whole words passed by their count
pub pass_words : (ws : List ℕ) (r at left next c : ℕ) → Passing ws r at left → at ≤ next → next ≤ length ws → length ws < 2 ^ 58
    → c ≡ count_set (take (next - at) (drop at ws)) → c ≤ left → Passing ws r next (left - c)
pass_words ws r at left next c p l h short e q = record {
  inside = h;
  passed =
      let s : count_below (member ws) (64 * next) ≡ count_below (member ws) (64 * at) + c =
      ap (count_below (member ws)) (up l) ∙ count_add (member ws) (64 * at) (64 * next - 64 * at)
      ∙ ap (λ (x : ℕ). count_below (member ws) (64 * at) + x) (sym (whole_words ws at next c l h short e)) in
      omega (arith, p.passed);
}
  where
    up : at ≤ next → 64 * next ≡ 64 * at + (64 * next - 64 * at)
    up q = omega arith

-- an eight of words passed by its count
eight_at : (n k : ℕ) (ws : List ℕ) → k < n → get_or (first_chunks 8 n ws) k [] ≡ take 8 (drop (8 * k) ws)
eight_at zero k ws h = absurd (omega arith)
eight_at (suc n) zero ws h = refl
eight_at (suc n) (suc k) ws h = eight_at n k (drop 8 ws) (omega arith) ∙ ap (take 8) (let e : 8 + 8 * k ≡ 8 * suc k = omega arith in drop-drop (8 * k) 8 ws ∙ ap (λ (m : ℕ). drop m ws) e)

pub pass_eight : (ws : List ℕ) (eights : List (List ℕ)) (r k left c : ℕ) → Passing ws r (8 * k) left → eights ≡ first_chunks 8 (length ws / 8) ws → k < length ws / 8
    → length ws < 2 ^ 58 → c ≡ count_set (get_or eights k []) → c ≤ left → Passing ws r (8 * (k + 1)) (left - c)
pass_eight ws eights r k left c p e l short ec q =
    let n : 8 ≡ 8 * (k + 1) - 8 * k = omega arith in
    pass_words ws r (8 * k) left (8 * (k + 1)) c p (omega arith) (omega arith) short
    (ec ∙ ap count_set (ap (λ (es : List (List ℕ)). get_or es k []) e ∙ eight_at (length ws / 8) k ws l ∙ ap (λ (m : ℕ). take m (drop (8 * k) ws)) n)) q

-- one word
pub pass_word : (ws : List ℕ) (r at left c : ℕ) → Passing ws r at left → at < length ws → c ≡ count_below (bit (get_or ws at 0)) 64 → c ≤ left
    → Passing ws r (at + 1) (left - c)
pass_word ws r at left c p l e q =
    record { inside = omega arith; passed = omega (arith, p.passed, count_word ws at) }

-- ---- the member of the rank

module _ (ws : List ℕ) (n r at left : ℕ) (h : n ≤ length ws) (p : Passing (take n ws) r at left) where
  select-at : (q : ℕ) → at < n → left < count_below (bit (get_or ws at 0)) 64 → q ≡ nth (bit (get_or ws at 0)) left 64 64 → Ok (Some (64 * at + q)) ≡ selected r (view ws n)
  unfolding selected found_below
  select-at q l few e =
      sym
      (ap (λ (x : ℕ). choose (ltb x (64 * (view ws n).count)) (Ok (Some x)) (Ok None)) (nth_is (view ws n).members r (64 * (view ws n).count) (64 * (view ws n).count) (64 * at + q) there)
      ∙ ap (λ (t : Bool). choose t (Ok (Some (64 * at + q))) (Ok None)) (lt-ltb (64 * at + q) (64 * (view ws n).count) there.within))
    where
      w : ℕ
      w = get_or ws at 0

      own : Nth (bit w) left 64 q
      own = subst (Nth (bit w) left 64) (sym e) (nth_has (bit w) left 64 64 few)

      front : count_below (view ws n).members (64 * at) ≡ count_below (member (take n ws)) (64 * at)
      front = count_ext (view ws n).members (member (take n ws)) (64 * at) (λ i m. view-part ws n i h)

      rest : count_below (λ j. (view ws n).members (64 * at + j)) q ≡ count_below (bit w) q
      rest = count_ext (λ j. (view ws n).members (64 * at + j)) (bit w) q (λ j m. view_in ws n at j l (omega (arith, own.within)))

      there : Nth (view ws n).members r (64 * (view ws n).count) (64 * at + q)
      there = record {
        within = omega (arith, own.within, view-count ws n);
        here = view_in ws n at q l own.within ∙ own.here;
        under = count_add (view ws n).members (64 * at) q ∙ omega (arith, front, rest, own.under, p.passed);
      }

-- from what is said of the front part
pub select_there : (ws : List ℕ) (n r at left q : ℕ) → n ≤ length ws → Meets (take n ws) r at left → q ≡ nth (bit (get_or ws at 0)) left 64 64
    → Ok (Some (64 * at + q)) ≡ selected r (view ws n)
select_there ws n r at left q h m e =
    let l : at < n = omega (arith, m.inside, length-take-le n ws h) in
    select-at ws n r at left h m.passing q l (subst (λ (x : ℕ). left < count_below (bit x) 64) (get_or-take n ws at 0 l) m.more) e

pub select_none : (ws : List ℕ) (n r : ℕ) → n ≤ length ws → count_below (member (take n ws)) (64 * length (take n ws)) ≤ r → Ok None ≡ selected r (view ws n)
unfolding selected found_below
select_none ws n r h l =
    sym
    (ap (λ (x : ℕ). choose (ltb x (64 * (view ws n).count)) (Ok (Some x)) (Ok None))
    (nth_none (view ws n).members r (64 * (view ws n).count) (64 * (view ws n).count) few)
    ∙ ap (λ (t : Bool). choose t (Ok (Some (64 * (view ws n).count))) (Ok None)) (le-ltb (64 * (view ws n).count) (64 * (view ws n).count) (omega arith)))
  where
    few : count_below (view ws n).members (64 * (view ws n).count) ≤ r
    few =
        omega (
          arith,
          count_ext (view ws n).members (member (take n ws)) (64 * (view ws n).count) (λ i m. view-part ws n i h),
          ap (λ (m : ℕ). count_below (member (take n ws)) (64 * m)) (length-take-le n ws h ∙ sym (view-count ws n)),
        )
