-- Listed bits set, one after the other.
use mathlib.Core.Path.{◌≡◌, refl, sym, ap, ap₂, ◌∙◌, subst}
use mathlib.Core.Bool.{Bool, ◌||◌}
use mathlib.Core.List.{List, [], ◌∷◌}
use mathlib.Core.Logic.{inl, inr}
use Prim.Native.Nat.{ℕ, zero, suc, ◌+◌, ◌*◌, ◌/◌, ◌%◌, ◌^◌, ◌≤◌, ◌<◌, max}
use native.Mathlib.Omega.{arith}
use lib.ListN.{length, get_or, set, take, length-set}
use lib.Seq.{get_or-set_other}
use lib.Dec.{eqb}
use lib.Bits.{bit_or, or_lt}
use borrow.Author.Tests.{ne_eqb}
use Rattle.word.specs.Places.{bit}
use Rattle.word.specs.Words.{single}
use Rattle.word.proofs.Cases.{by_lt, by_eq, eqb_same, or-false}
use Rattle.word.proofs.Places.{bit-or}
use Rattle.word.proofs.Words.{bit-single, single-lt}
use Rattle.word.proofs.Lists.{Fit}
use Rattle.word.proofs.Sweep.{get_d_set}
use Rattle.storage.specs.Stores.{with_count, Bits, view, zeroed, Changes}
use Rattle.storage.specs.Guards.{Passed}
use Rattle.storage.specs.declared.Bitmap.{Bitmap}
use Rattle.storage.specs.declared.Refusal.TheVariants.{NoSpace}
use Rattle.storage.proofs.Checks.{within_ok, within_no}
use Rattle.storage.proofs.Views.{view-count}
use Rattle.storage.proofs.Stores.{changes_done, changes-refused, length-zeroed, zeroed_out, zeroed_fit, grown-bit}
use Rattle.bitmaps.specs.Bitmaps.{is_listed, reach_of, setting_many}
use Rattle.bitmap.specs.Kernels.{SetsListed}
use Rattle.storage.specs.Refusals.{refusing}
use Rattle.std.specs.Prelude.{Ok}
use Rattle.std.specs.List.{fold}
use Rattle.std.proofs.Math.Bool.{or_assoc}

-- ---- one more of the list

listed_more : (is : List ℕ) (t j : ℕ) → t < length is → is_listed (take (suc t) is) j ≡ is_listed (take t is) j || eqb j (get_or is t 0)
unfolding is_listed
listed_more [] t j h = absurd (omega arith)
listed_more (i ∷ is) zero j h = or-false (eqb j i)
listed_more (i ∷ is) (suc t) j h = ap (λ (x : Bool). eqb j i || x) (listed_more is t j (omega arith)) ∙ sym (or_assoc (eqb j i) (is_listed (take t is) j) (eqb j (get_or is t 0)))

reach-more : (is : List ℕ) (t : ℕ) → t < length is → reach_of (take (suc t) is) ≡ max (reach_of (take t is)) (get_or is t 0 / 64 + 1)
unfolding reach_of
reach-more [] t h = absurd (omega arith)
reach-more (i ∷ is) zero h = omega arith
reach-more (i ∷ is) (suc t) h = let e = reach-more is t (omega arith) in omega (arith, e)

-- by a fold from the front
reach_fold : (is : List ℕ) (most : ℕ) → fold (λ (m i : ℕ). max m (i / 64 + 1)) most is ≡ max most (reach_of is)
unfolding reach_of
reach_fold [] most = omega arith
reach_fold (i ∷ is) most = let e = reach_fold is (max most (i / 64 + 1)) in omega (arith, e)

pub reach_folded : (is : List ℕ) → fold (λ (m i : ℕ). max m (i / 64 + 1)) 0 is ≡ reach_of is
reach_folded is = omega (arith, reach_fold is 0)

pub listed_none : (ws is : List ℕ) → SetsListed ws (take 0 is) ws
unfolding is_listed
listed_none ws is = record { long = refl; fits = λ k h. h; bits = λ k j l. sym (or-false (bit (get_or ws k 0) j)); above = λ k h. refl }

pub listed_next : (ws is ws' : List ℕ) (t x : ℕ) → SetsListed ws (take t is) ws' → t < length is → get_or is t 0 / 64 < length ws → x ≡ single 64 (get_or is t 0 % 64)
    → SetsListed ws (take (t + 1) is) (set ws' (get_or is t 0 / 64) (bit_or (get_or ws' (get_or is t 0 / 64) 0) x))
listed_next ws is ws' t x s h room ex =
    let e : suc t ≡ t + 1 = omega arith in
    subst (λ (m : ℕ). SetsListed ws (take m is) (set ws' k v)) e
    (record {
      long = length-set ws' k v ∙ s.long;
      fits = λ m f. by_eq m k
          (λ e. subst (λ (y : ℕ). y < 2 ^ 64) (sym (here m e))
          (or_lt 64 (get_or ws' k 0) x (s.fits k (subst (λ (q : ℕ). get_or ws q 0 < 2 ^ 64) e f))
          (subst (λ (y : ℕ). y < 2 ^ 64) (sym ex) (single-lt 64 (i % 64)))))
          (λ e. subst (λ (y : ℕ). y < 2 ^ 64) (sym (get_or-set_other ws' k m v 0 e)) (s.fits m f));
      bits = λ m j l. place m j l ∙ or_back m j;
      above = past;
    })
  where
    i : ℕ
    i = get_or is t 0

    k : ℕ
    k = i / 64

    v : ℕ
    v = bit_or (get_or ws' k 0) x

    here : (m : ℕ) → m ≡ k → get_or (set ws' k v) m 0 ≡ v
    here m e = get_d_set ws' k m v (omega (arith, s.long)) e

    past : (m : ℕ) → reach_of (take (suc t) is) ≤ m → get_or (set ws' k v) m 0 ≡ get_or ws m 0
    past m a = get_or-set_other ws' k m v 0 (omega (arith, reach-more is t h)) ∙ s.above m (omega (arith, reach-more is t h))

    or_back : (m j : ℕ) → (bit (get_or ws m 0) j || is_listed (take t is) (64 * m + j)) || eqb (64 * m + j) i ≡ bit (get_or ws m 0) j || is_listed (take (suc t) is) (64 * m + j)
    or_back m j =
        or_assoc (bit (get_or ws m 0) j) (is_listed (take t is) (64 * m + j)) (eqb (64 * m + j) i)
        ∙ ap (λ (y : Bool). bit (get_or ws m 0) j || y) (sym (listed_more is t (64 * m + j) h))

    place : (m j : ℕ) → j < 64 → bit (get_or (set ws' k v) m 0) j ≡ (bit (get_or ws m 0) j || is_listed (take t is) (64 * m + j)) || eqb (64 * m + j) i
    place m j l =
        by_eq m k
        (λ e.
        ap (λ (y : ℕ). bit y j) (here m e) ∙ bit-or (get_or ws' k 0) x j
        ∙ ap₂ (λ (y z : Bool). y || z) (ap (λ (q : ℕ). bit (get_or ws' q 0) j) (sym e) ∙ s.bits m j l)
        (ap (λ (y : ℕ). bit y j) ex ∙ bit-single 64 (i % 64) j l ∙ eqb_same j (i % 64) (64 * m + j) i (λ q. omega arith) (λ q. omega arith)))
        (λ e.
        ap (λ (y : ℕ). bit y j) (get_or-set_other ws' k m v 0 e) ∙ s.bits m j l
        ∙ sym (ap (λ (y : Bool). (bit (get_or ws m 0) j || is_listed (take t is) (64 * m + j)) || y) (ne_eqb (64 * m + j) i (omega arith)) ∙ or-false
        (bit (get_or ws m 0) j || is_listed (take t is) (64 * m + j))))

-- ---- the call

module _ (ws is : List ℕ) (b : Bitmap) (f : Fit ws) (p : Passed ws b) where
  pub many_refused : length ws < reach_of is → Changes (setting_many is) ws b (refusing b NoSpace) ws
  unfolding setting_many
  many_refused h = changes-refused (setting_many is) ws b NoSpace p (within_no (length ws) _ (omega arith))

  pub many_changes : (z ws' : List ℕ) (e r : ℕ) → e ≡ reach_of is → e ≤ length ws → z ≡ zeroed b.count e ws → SetsListed z is ws' → r ≡ max b.count e
      → Changes (setting_many is) ws b (Ok (with_count b r)) ws'
  unfolding setting_many
  many_changes z ws' e r ee h ez t er =
      changes_done (setting_many is) ws b ws' s r p (within_ok (length ws) s (omega (arith, view-count ws n, p.inside)))
      (record {
        long = t.long ∙ ap length ez ∙ length-zeroed n e ws;
        fits = λ k a. t.fits k (subst Fit (sym ez) (zeroed_fit n e ws f) k);
        used = λ k j a l.
            t.bits k j l
            ∙ ap (λ (y : Bool). y || is_listed is (64 * k + j))
            (ap (λ (y : List ℕ). bit (get_or y k 0) j) ez
            ∙ by_lt k n (λ q. grown-bit ws n e k j (inl q) l) (λ q. grown-bit ws n e k j (inr (omega (arith, view-count ws n))) l));
        dropped = λ k a q. absurd (omega (arith, view-count ws n));
        kept = λ k a q.
            t.above k (omega (arith, view-count ws n)) ∙ ap (λ (y : List ℕ). get_or y k 0) ez
            ∙ zeroed_out n e ws k (inr (omega (arith, view-count ws n)));
      })
      (er ∙ ap₂ max (sym (view-count ws n)) ee)
    where
      n : ℕ
      n = b.count

      s : Bits
      s = record { members = λ j. (view ws n).members j || is_listed is j; count = max (view ws n).count (reach_of is) }
