-- Trimming, and one bit set or cleared.
use mathlib.Core.Path.{◌≡◌, refl, sym, ap, ap₂, ◌∙◌, subst}
use mathlib.Core.Bool.{Bool, not, ◌&&◌, ◌||◌}
use mathlib.Core.List.{List}
use Prim.Native.Nat.{ℕ, ◌+◌, ◌-◌, ◌*◌, ◌/◌, ◌%◌, ◌^◌, ◌≤◌, ◌<◌, max}
use native.Mathlib.Omega.{arith}
use lib.ListN.{length, get_or, set, take}
use lib.Dec.{eqb}
use lib.Bits.{bit_and, bit_or, and_lt, or_lt}
use lib.Pow.{ones_sub-lt}
use borrow.Author.Tests.{ne_eqb}
use Rattle.word.specs.Places.{bit}
use Rattle.word.specs.Words.{single}
use Rattle.word.proofs.Cases.{eqb_same, or-false, and-keep}
use Rattle.word.proofs.Places.{bit-and, bit-or, bit_not}
use Rattle.word.proofs.Words.{bit-single, single-lt}
use Rattle.word.proofs.Lists.{Fit}
use Rattle.arch.specs.Scans.{nonzero_len}
use Rattle.storage.specs.Stores.{with_count, Bits, view, trimmed, zeroed, Changes}
use Rattle.storage.specs.Guards.{Passed}
use Rattle.storage.specs.declared.Bitmap.{Bitmap}
use Rattle.storage.specs.declared.Refusal.TheVariants.{NoSpace}
use Rattle.storage.proofs.Checks.{within_ok, within_no}
use Rattle.storage.proofs.Views.{view-count, view_in, view_out}
use Rattle.storage.proofs.Stores.{changes_done, changes-refused, word_stored}
use Rattle.storage.proofs.Grown.{grown_fit, grown-at, grown-word}
use Rattle.storage.proofs.Trims.{trimmed-length, trimmed_stored}
use Rattle.bitmaps.specs.Bitmaps.{trimming, setting, without, unsetting}
use Rattle.storage.specs.Refusals.{refusing}
use Rattle.std.specs.Prelude.{Ok}

pub trim-changes : (ws : List ℕ) (b : Bitmap) (r : ℕ) → Fit ws → Passed ws b → r ≡ nonzero_len (take b.count ws)
    → Changes trimming ws b (Ok (with_count b r)) ws
unfolding trimming
trim-changes ws b r f p e =
    changes_done trimming ws b ws (trimmed (view ws n)) r p refl
    (trimmed_stored ws n (view ws n) f p.inside (omega (arith, view-count ws n)) (λ k j l m. sym (view_in ws n k j l m)) (λ i l m. view_out ws n i l) ws n (omega arith) refl (λ k l m. refl))
    (e ∙ trimmed-length ws n (view ws n) f p.inside (omega (arith, view-count ws n)) (λ k j l m. sym (view_in ws n k j l m)) (λ i l m. view_out ws n i l))
  where
    n : ℕ
    n = b.count

-- ---- a bit set

module _ (ws : List ℕ) (b : Bitmap) (i : ℕ) (f : Fit ws) (p : Passed ws b) where
  pub set-refused : length ws ≤ i / 64 → Changes (setting i) ws b (refusing b NoSpace) ws
  unfolding setting
  set-refused h = changes-refused (setting i) ws b NoSpace p (within_no (length ws) _ (omega arith))

  pub set-changes : (z : List ℕ) (x r : ℕ) → i / 64 < length ws → z ≡ zeroed b.count (i / 64 + 1) ws → x ≡ single 64 (i % 64) → r ≡ max b.count (i / 64 + 1)
      → Changes (setting i) ws b (Ok (with_count b r)) (set z (i / 64) (bit_or (get_or z (i / 64) 0) x))
  unfolding setting
  set-changes z x r h ez ex er =
      changes_done (setting i) ws b (set z k v) s r p (within_ok (length ws) s (omega (arith, view-count ws n, p.inside)))
      (grown-word ws z n (k + 1) ez k v s refl f p.inside h (omega (arith, view-count ws n))
      (or_lt 64 (get_or z k 0) x (grown_fit ws z n (k + 1) ez f k) (subst (λ (y : ℕ). y < 2 ^ 64) (sym ex) (single-lt 64 (i % 64))))
      (λ j l.
      bit-or (get_or z k 0) x j
      ∙ ap₂ (λ (y t : Bool). y || t) (grown-at ws z n (k + 1) ez k j (omega arith) l)
      (ap (λ (y : ℕ). bit y j) ex ∙ bit-single 64 (i % 64) j l ∙ eqb_same j (i % 64) (64 * k + j) i (λ q. omega arith) (λ q. omega arith)))
      (λ m j q l. sym (ap (λ (t : Bool). (view ws n).members (64 * m + j) || t) (ne_eqb (64 * m + j) i (omega arith)) ∙ or-false ((view ws n).members (64 * m + j)))))
      (er ∙ ap (λ (m : ℕ). max m (k + 1)) (sym (view-count ws n)))
    where
      n : ℕ
      n = b.count

      k : ℕ
      k = i / 64

      v : ℕ
      v = bit_or (get_or z k 0) x

      s : Bits
      s = record { members = λ j. (view ws n).members j || eqb j i; count = max (view ws n).count (i / 64 + 1) }

  -- ---- a bit cleared

  pub unset-past : b.count ≤ i / 64 → Changes (unsetting i) ws b (Ok b) ws
  unfolding unsetting
  unset-past h =
      changes_done (unsetting i) ws b ws _ b.count p refl
      (record {
        long = refl;
        fits = λ k l. f k;
        used = λ k j l m.
            sym (view_in ws b.count k j (omega (arith, view-count ws b.count)) m)
            ∙ sym (ap (λ (t : Bool). (view ws b.count).members (64 * k + j) && not t)
            (ne_eqb (64 * k + j) i (omega (arith, view-count ws b.count))) ∙ and-keep ((view ws b.count).members (64 * k + j)));
        dropped = λ k l m. absurd (omega (arith, view-count ws b.count));
        kept = λ k l m. refl;
      })
      (sym (view-count ws b.count))

  pub unset-changes : (x : ℕ) → i / 64 < b.count → x ≡ single 64 (i % 64)
      → Changes (unsetting i) ws b (Ok b) (set ws (i / 64) (bit_and (get_or ws (i / 64) 0) ((2 ^ 64 - 1) - x)))
  unfolding unsetting
  unset-changes x h ex =
      changes_done (unsetting i) ws b (set ws k v) _ n p refl
      (word_stored ws n k v (without i (view ws n)) f p.inside h (view-count ws n) (and_lt 64 (get_or ws k 0) ((2 ^ 64 - 1) - x) (f k) (ones_sub-lt 64 x))
      (λ j l.
      bit-and (get_or ws k 0) ((2 ^ 64 - 1) - x) j
      ∙ ap₂ (λ (y t : Bool). y && t) (sym (view_in ws n k j h l))
      (bit_not x 64 j (subst (λ (y : ℕ). y < 2 ^ 64) (sym ex) (single-lt 64 (i % 64))) l
      ∙ ap not (ap (λ (y : ℕ). bit y j) ex ∙ bit-single 64 (i % 64) j l ∙ eqb_same j (i % 64) (64 * k + j) i (λ q. omega arith) (λ q. omega arith))))
      (λ m j q l.
      sym (ap (λ (t : Bool). (view ws n).members (64 * m + j) && not t) (ne_eqb (64 * m + j) i (omega arith)) ∙ and-keep ((view ws n).members (64 * m + j)))))
      (sym (view-count ws n))
    where
      n : ℕ
      n = b.count

      k : ℕ
      k = i / 64

      v : ℕ
      v = bit_and (get_or ws k 0) ((2 ^ 64 - 1) - x)
