-- A field written into bits that may have to come into use.
use mathlib.Core.Path.{◌≡◌, refl, sym, ap, ◌∙◌, subst}
use mathlib.Core.Bool.{false}
use mathlib.Core.List.{List}
use Prim.Native.Nat.{ℕ, ◌+◌, ◌-◌, ◌*◌, ◌/◌, ◌%◌, ◌^◌, ◌≤◌, ◌<◌, max}
use native.Mathlib.Omega.{arith}
use lib.ListN.{length}
use lib.Bits.{bit_and}
use Rattle.word.specs.Sets.{choose}
use Rattle.word.specs.Places.{bit}
use Rattle.word.specs.Words.{low_mask}
use Rattle.word.proofs.Cases.{by_eq}
use Rattle.word.proofs.Places.{pack-bit}
use Rattle.storage.specs.Stores.{Bits, Outcome, done, with_count, view, held, in_region, zeroed, answer, store, outcome, Changes}
use Rattle.storage.specs.Guards.{Passed}
use Rattle.storage.specs.declared.Bitmap.{Bitmap}
use Rattle.storage.specs.declared.Refusal.TheVariants.{WidthOver, IndexOver, NoSpace}
use Rattle.storage.proofs.Checks.{within_ok, within_no}
use Rattle.storage.proofs.Views.{view_in}
use Rattle.storage.proofs.Stores.{Stored, written_stored, outcome_ok, changes_done, changes-refused, changes-same}
use Rattle.storage.proofs.Grown.{passed_grown, grown_long, grown-kept, grown-at}
use Rattle.slice.specs.Slices.{with_field, setting_field_inside}
use Rattle.slice.proofs.Fields.{low_digits}
use Rattle.slice.proofs.Stricts.{setting_in}
use Rattle.bitmaps.specs.Bitmaps.{setting_region, setting_field}
use Rattle.bitmaps.proofs.Cases.{Some, field-wide, field-over, field_some, field_cleared}
use Rattle.storage.specs.Refusals.{Change, refusing}
use Rattle.std.specs.Prelude.{Ok}

-- what a mask leaves of the value
masked : (value width mask : ℕ) → value < 2 ^ 64 → width ≤ 64 → mask ≡ low_mask 64 width → bit_and value mask ≡ value % 2 ^ width
masked value width mask h l e = ap (bit_and value) e ∙ low_digits value width (bit value) l h (λ j m. refl) ∙ pack-bit width value

pub some_digit : (value width mask : ℕ) → value < 2 ^ 64 → width ≤ 64 → mask ≡ low_mask 64 width → (bit_and value mask ≡ 0 → ⊥) → Some value width
some_digit value width mask h l e n = record {
  wide = l;
  some = λ z. n (masked value width mask h l e ∙ z);
  pos = by_eq width 0 (λ z. absurd (n (masked value width mask h l e ∙ ap (λ (w : ℕ). value % 2 ^ w) z ∙ omega arith))) (λ p. omega arith);
}

-- ---- the call

-- a strict field that was done, by its words
strict_done : (z ws' : List ℕ) (b : Bitmap) (i value width : ℕ) (r : Change) → Passed z b → 0 < width → width ≤ 64 → i + width ≤ 64 * b.count
    → Changes (setting_field_inside i value width) z b r ws' → (r ≡ Ok b) × Stored z b.count (with_field i value width (held z b)) ws'
unfolding answer store with_field view
strict_done z ws' b i value width r p pos wide end l = (
  l.answers ∙ ap (λ (o : Outcome). answer o b) e,
  subst (Stored z b.count s) (sym (l.leaves ∙ ap (λ (o : Outcome). store o z b.count) e)) (written_stored z b.count s p.inside p.inside),
)
  where
    s : Bits
    s = with_field i value width (held z b)

    e : outcome (setting_field_inside i value width) z b ≡ done s
    e = outcome_ok (setting_field_inside i value width) z b p ∙ setting_in z b i value width p pos wide end

module _ (ws : List ℕ) (b : Bitmap) (i value width : ℕ) (p : Passed ws b) where
  pub wide-changes : 64 < width → Changes (setting_field i value width) ws b (refusing b WidthOver) ws
  wide-changes h = changes-refused (setting_field i value width) ws b WidthOver p (field-wide i value width (length ws) (view ws b.count) h)

  pub zeros-changes : (mask : ℕ) (r : Change) (ws' : List ℕ) → value < 2 ^ 64 → width ≤ 64 → mask ≡ low_mask 64 width → bit_and value mask ≡ 0
      → Changes (setting_region i false width) ws b r ws' → Changes (setting_field i value width) ws b r ws'
  zeros-changes mask r ws' v l e z h =
      changes-same (setting_field i value width) (setting_region i false width) ws ws' b r
      (field_cleared i value width (length ws) (view ws b.count) l (sym (masked value width mask v l e) ∙ z)) h

  module _ (d : Some value width) where
    pub over-changes : 2 ^ 64 ≤ i + (width - 1) → Changes (setting_field i value width) ws b (refusing b IndexOver) ws
    over-changes h =
        changes-refused (setting_field i value width) ws b IndexOver p
        (field-over i value width (length ws) (view ws b.count) d.wide (omega (arith, d.pos)) (omega (arith, d.pos)))

    module _ (w : ℕ) (low : i + (width - 1) < 2 ^ 64) (ew : w ≡ (i + (width - 1)) / 64) where
      pub no_space_changes : length ws ≤ w → Changes (setting_field i value width) ws b (refusing b NoSpace) ws
      no_space_changes h =
          changes-refused (setting_field i value width) ws b NoSpace p
          (field_some i value width (length ws) (view ws b.count) d (omega (arith, d.pos)) ∙ within_no (length ws) _ (omega (arith, d.pos)))

      pub grown-changes : (z ws' : List ℕ) (m : ℕ) (r : Change) → w < length ws → z ≡ zeroed b.count (w + 1) ws → m ≡ max b.count (w + 1)
          → Changes (setting_field_inside i value width) z (with_count b m) r ws' → Changes (setting_field i value width) ws b r ws'
      unfolding with_field view
      grown-changes z ws' m r h ez em l =
          subst (λ (x : Change). Changes (setting_field i value width) ws b x ws') (sym t.0)
          (changes_done (setting_field i value width) ws b ws' s m p
          (field_some i value width (length ws) (view ws b.count) d (omega (arith, d.pos)) ∙ within_ok (length ws) s (omega (arith, p.inside, word)))
          (record {
            long = t.1.long ∙ grown_long ws z b.count (w + 1) ez;
            fits = λ k q. t.1.fits k (omega (arith, word));
            used = λ k j q g.
                t.1.used k j (omega (arith, word)) g
                ∙ ap (choose (in_region i width (64 * k + j)) (bit value (64 * k + j - i))) (view_in z m k j (omega (arith, word)) g ∙ grown-at ws z b.count (w + 1) ez k j (omega (arith, word)) g);
            dropped = λ k q g. absurd (omega (arith, word));
            kept = λ k q g. t.1.kept k (omega (arith, word)) (omega (arith, word)) ∙ grown-kept ws z b.count (w + 1) ez k (omega (arith, word));
          })
          (omega (arith, word)))
        where
          s : Bits
          s = record { members = λ q. choose (in_region i width q) (bit value (q - i)) ((view ws b.count).members q); count = max b.count ((i + width - 1) / 64 + 1) }

          word : (i + width - 1) / 64 ≡ w
          word = omega (arith, d.pos)

          t : (r ≡ Ok (with_count b m)) × Stored z m (with_field i value width (view z m)) ws'
          t = strict_done z ws' (with_count b m) i value width r (passed_grown ws z b (w + 1) m p ez em (omega arith)) d.pos d.wide (omega (arith, word)) l
