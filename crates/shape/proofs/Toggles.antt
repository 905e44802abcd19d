-- A bit and a region flipped.
use mathlib.Core.Path.{◌≡◌, sym, ap, ap₂, ◌∙◌}
use mathlib.Core.Bool.{Bool, ◌&&◌}
use mathlib.Core.List.{List}
use Prim.Native.Nat.{ℕ, ◌+◌, ◌-◌, ◌*◌, ◌/◌, ◌%◌, ◌^◌, ◌≤◌, ◌<◌, max}
use native.Mathlib.Omega.{arith}
use lib.ListN.{length, get_or, set}
use lib.Dec.{leb, ltb}
use lib.Bits.{bit_xor}
use Rattle.word.specs.Sets.{xorb}
use Rattle.word.specs.Words.{single}
use Rattle.word.proofs.Lists.{Fit}
use Rattle.storage.specs.Stores.{with_count, view, held, flipped, zeroed, Changes}
use Rattle.storage.specs.Guards.{Passed}
use Rattle.storage.specs.declared.Bitmap.{Bitmap}
use Rattle.storage.specs.declared.Refusal.TheVariants.{IndexOver, NoSpace}
use Rattle.storage.proofs.Checks.{within_ok, within_no}
use Rattle.storage.proofs.Views.{view-count}
use Rattle.storage.proofs.Stores.{changes_done, changes-refused, keeps_changes}
use Rattle.storage.proofs.Grown.{grown_long, grown_fit, grown-kept, grown-at, flip_stored}
use Rattle.shapes.specs.Shapes.{toggling, toggling_region}
use Rattle.shape.specs.Kernels.{Flipped}
use Rattle.shapes.proofs.Cases.{flipped_region, region_none, region-over, region-put}
use Rattle.storage.specs.Refusals.{refusing}
use Rattle.std.specs.Prelude.{Ok}

-- ---- `toggle`

module _ (ws : List ℕ) (b : Bitmap) (i : ℕ) (f : Fit ws) (p : Passed ws b) where
  pub toggle-refused : length ws ≤ i / 64 → Changes (toggling i) ws b (refusing b NoSpace) ws
  unfolding toggling
  toggle-refused h = changes-refused (toggling i) ws b NoSpace p (within_no (length ws) _ (omega arith))

  pub toggle-changes : (z : List ℕ) (x r : ℕ) → i / 64 < length ws → z ≡ zeroed b.count (i / 64 + 1) ws → x ≡ single 64 (i % 64) → r ≡ max b.count (i / 64 + 1)
      → Changes (toggling i) ws b (Ok (with_count b r)) (set z (i / 64) (bit_xor (get_or z (i / 64) 0) x))
  unfolding toggling
  toggle-changes z x r h ez ex er =
      changes_done (toggling i) ws b (set z (i / 64) (bit_xor (get_or z (i / 64) 0) x)) (flipped i (view ws n)) r p
      (within_ok (length ws) (flipped i (view ws n)) (omega (arith, view-count ws n, p.inside))) (flip_stored ws z n i x ez f p.inside h ex)
      (er ∙ ap (λ (m : ℕ). max m (i / 64 + 1)) (sym (view-count ws n)))
    where
      n : ℕ
      n = b.count

-- ---- `toggle_region`

module _ (ws : List ℕ) (b : Bitmap) (i k : ℕ) (f : Fit ws) (p : Passed ws b) where
  pub region-nothing : k ≡ 0 → Changes (toggling_region i k) ws b (Ok b) ws
  region-nothing e = keeps_changes (toggling_region i k) ws b f p (region_none i k (length ws) (held ws b) e)

  pub region_index_over : (k ≡ 0 → ⊥) → 2 ^ 64 < i + k → Changes (toggling_region i k) ws b (refusing b IndexOver) ws
  region_index_over n h = changes-refused (toggling_region i k) ws b IndexOver p (region-over i k (length ws) (held ws b) n h)

  module _ (last : ℕ) (some : k ≡ 0 → ⊥) (e : last + 1 ≡ i + k) (low : last < 2 ^ 64) where
    word : (i + k - 1) / 64 ≡ last / 64
    word = ap (λ (x : ℕ). x / 64) (omega arith)

    pub region_no_space : length ws ≤ last / 64 → Changes (toggling_region i k) ws b (refusing b NoSpace) ws
    region_no_space h =
        changes-refused (toggling_region i k) ws b NoSpace p
        (region-put i k (length ws) (held ws b) some (omega arith) ∙ within_no (length ws) (flipped_region i k (held ws b)) (omega (arith, word)))

    pub region-flipped : (z ws' : List ℕ) (r : ℕ) → last / 64 < length ws → z ≡ zeroed b.count (last / 64 + 1) ws → Flipped i (last + 1) z ws'
        → r ≡ max b.count (last / 64 + 1) → Changes (toggling_region i k) ws b (Ok (with_count b r)) ws'
    region-flipped z ws' r h ez s er =
        changes_done (toggling_region i k) ws b ws' (flipped_region i k (view ws n)) r p
        (region-put i k (length ws) (view ws n) some (omega arith)
        ∙ within_ok (length ws) (flipped_region i k (view ws n)) (omega (arith, word, view-count ws n, p.inside)))
        (record {
          long = s.long ∙ grown_long ws z n t ez;
          fits = λ m a. s.fits m (grown_fit ws z n t ez f m);
          used = λ m j a l.
              s.bits m j l
              ∙ ap₂ (λ (x : Bool) (y : ℕ). xorb x (leb i (64 * m + j) && ltb (64 * m + j) y)) (grown-at ws z n t ez m j (omega (arith, view-count ws n, word)) l) e;
          dropped = λ m a q. absurd (omega (arith, view-count ws n));
          kept = λ m a q. s.above m (omega (arith, view-count ws n, word)) ∙ grown-kept ws z n t ez m (omega (arith, view-count ws n, word));
        })
        (er ∙ ap₂ (λ (x y : ℕ). max x (y + 1)) (sym (view-count ws n)) (sym word))
      where
        n : ℕ
        n = b.count

        t : ℕ
        t = last / 64 + 1
