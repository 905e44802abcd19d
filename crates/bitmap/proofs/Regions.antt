-- A region of bits set or cleared.
use mathlib.Core.Path.{◌≡◌, sym, ap, ap₂, ◌∙◌, subst}
use mathlib.Core.Bool.{Bool, true, false, ◌&&◌}
use mathlib.Core.List.{List, ◌++◌}
use mathlib.Core.Logic.{inl, inr}
use Prim.Native.Nat.{ℕ, ◌+◌, ◌-◌, ◌*◌, ◌/◌, ◌^◌, ◌≤◌, ◌<◌, min, max}
use native.Mathlib.Omega.{arith}
use lib.ListN.{length, get_or, take, drop}
use lib.Dec.{leb, ltb}
use borrow.Author.Tests.{lt-ltb, le-ltb, le-leb, lt-leb}
use Rattle.word.specs.Sets.{choose}
use Rattle.word.specs.Places.{bit, member}
use Rattle.word.proofs.Cases.{by_lt}
use Rattle.word.proofs.Places.{bits_ext}
use Rattle.word.proofs.Lists.{Fit, member-at, words_fit}
use Rattle.arch.specs.Scans.{filled}
use Rattle.arch.specs.Promises.{Fills}
use Rattle.arch.proofs.Promises.{fills}
use Rattle.storage.specs.Stores.{with_count, Bits, view, within, in_region, zeroed, Changes}
use Rattle.storage.specs.Guards.{Passed}
use Rattle.storage.specs.declared.Bitmap.{Bitmap}
use Rattle.storage.specs.declared.Refusal.TheVariants.{IndexOver, NoSpace}
use Rattle.storage.proofs.Checks.{within_ok, within_no}
use Rattle.storage.proofs.Views.{view-count, view-part}
use Rattle.storage.proofs.Stores.{changes_done, changes-refused, keeps_changes, part-changes, length-zeroed, zeroed_out, zeroed_fit, grown-bit}
use Rattle.bitmaps.specs.Bitmaps.{setting_region}
use Rattle.bitmaps.proofs.Cases.{region_none, region-over, region-put}
use Rattle.storage.specs.Refusals.{refusing}
use Rattle.std.specs.Prelude.{Ok}

-- ---- the filled words

filled_fit : (a e : ℕ) (v : Bool) (ws : List ℕ) → Fit (filled a e v ws)
unfolding filled
filled_fit a e v ws = words_fit (λ i. choose (leb a i && ltb i e) v (member ws i)) (length ws)

-- a bit of a filled store
filled-bit : (a e : ℕ) (v : Bool) (ws : List ℕ) (k j : ℕ) → k < length ws → j < 64
    → bit (get_or (filled a e v ws) k 0) j ≡ choose (leb a (64 * k + j) && ltb (64 * k + j) e) v (bit (get_or ws k 0) j)
filled-bit a e v ws k j h l =
    sym (member-at (filled a e v ws) k j l)
    ∙ by_lt (64 * k + j) a
    (λ p. r.before (64 * k + j) p ∙ member-at ws k j l ∙ ap (λ (t : Bool). choose (t && ltb (64 * k + j) e) v (bit (get_or ws k 0) j)) (sym (lt-leb a (64 * k + j) p)))
    (λ p. by_lt (64 * k + j) e
    (λ q.
    r.in_region (64 * k + j) (omega arith) p q
    ∙ ap₂ (λ (t u : Bool). choose (t && u) v (bit (get_or ws k 0) j)) (sym (le-leb a (64 * k + j) p)) (sym (lt-ltb (64 * k + j) e q)))
    (λ q.
    r.after (64 * k + j) q ∙ member-at ws k j l
    ∙ ap₂ (λ (t u : Bool). choose (t && u) v (bit (get_or ws k 0) j)) (sym (le-leb a (64 * k + j) p)) (sym (le-ltb (64 * k + j) e q))))
  where
    r : Fills a e v ws (filled a e v ws)
    r = fills a e v ws

-- a word past the region is as it was
filled-past : (a e : ℕ) (v : Bool) (ws : List ℕ) (k : ℕ) → Fit ws → e ≤ 64 * k → get_or (filled a e v ws) k 0 ≡ get_or ws k 0
filled-past a e v ws k f h =
    bits_ext 64 (get_or (filled a e v ws) k 0) (get_or ws k 0) (filled_fit a e v ws k) (f k)
    (λ j l. sym (member-at (filled a e v ws) k j l) ∙ (fills a e v ws).after (64 * k + j) (omega arith) ∙ member-at ws k j l)

-- ---- the call

module _ (ws : List ℕ) (b : Bitmap) (i k : ℕ) (f : Fit ws) (p : Passed ws b) where
  pub region-nothing : (v : Bool) → k ≡ 0 → Changes (setting_region i v k) ws b (Ok b) ws
  region-nothing v e = keeps_changes (setting_region i v k) ws b f p (region_none i k (length ws) v (view ws b.count) e)

  pub region_index_over : (v : Bool) → (k ≡ 0 → ⊥) → 2 ^ 64 < i + k → Changes (setting_region i v k) ws b (refusing b IndexOver) ws
  region_index_over v n h = changes-refused (setting_region i v k) ws b IndexOver p (region-over i k (length ws) v (view ws b.count) n h)

  module _ (last : ℕ) (some : k ≡ 0 → ⊥) (e : last + 1 ≡ i + k) (low : last < 2 ^ 64) where
    pub region_cleared : (v : Bool) (end : ℕ) (part : List ℕ) → v ≡ false → end ≡ min last (64 * b.count) + 1 → part ≡ filled i end false (take b.count ws)
        → Changes (setting_region i v k) ws b (Ok b) (part ++ drop b.count ws)
    unfolding filled
    region_cleared v end part ev ee ep =
        part-changes (setting_region i v k) ws part b (λ q. choose (leb i q && ltb q end) false (member (take b.count ws) q)) s p
        (region-put i k (length ws) v (view ws b.count) some (omega arith)
        ∙ ap (λ (t : Bool). within (length ws)
        (record {
          members = λ q. choose (in_region i k q) t ((view ws b.count).members q);
          count = choose t
              (max (view ws b.count).count ((i + k - 1) / 64 + 1)) (view ws b.count).count;
        })) ev
        ∙ within_ok (length ws) s (omega (arith, view-count ws b.count, p.inside)))
        (view-count ws b.count) ep
        (λ q l. ap₂ (λ (t : Bool) (u : Bool). choose (leb i q && t) false u) (same q l) (sym (view-part ws b.count q p.inside)))
      where
        s : Bits
        s = record { members = λ q. choose (in_region i k q) false ((view ws b.count).members q); count = (view ws b.count).count }

        same : (q : ℕ) → q < 64 * b.count → ltb q end ≡ ltb q (i + k)
        same q l = by_lt q end (λ a. lt-ltb q end a ∙ sym (lt-ltb q (i + k) (omega arith))) (λ a. le-ltb q end a ∙ sym (le-ltb q (i + k) (omega arith)))

    pub region_no_space : (v : Bool) → v ≡ true → length ws ≤ last / 64 → Changes (setting_region i v k) ws b (refusing b NoSpace) ws
    region_no_space v ev h =
        changes-refused (setting_region i v k) ws b NoSpace p
        (region-put i k (length ws) v (view ws b.count) some (omega arith) ∙ within_no (length ws) _ big)
      where
        word : (i + k - 1) / 64 ≡ last / 64
        word = ap (λ (x : ℕ). x / 64) (omega arith)

        big : length ws < choose v (max (view ws b.count).count ((i + k - 1) / 64 + 1)) (view ws b.count).count
        big = subst (λ (t : Bool). length ws < choose t (max (view ws b.count).count ((i + k - 1) / 64 + 1)) (view ws b.count).count) (sym ev) (omega (arith, word))

    pub region-set : (v : Bool) (z ws' : List ℕ) (r : ℕ) → v ≡ true → last / 64 < length ws → z ≡ zeroed b.count (last / 64 + 1) ws → ws' ≡ filled i (last + 1) true z
        → r ≡ max b.count (last / 64 + 1) → Changes (setting_region i v k) ws b (Ok (with_count b r)) ws'
    region-set v z ws' r ev h ez ew er =
        changes_done (setting_region i v k) ws b ws' s r p
        (region-put i k (length ws) v (view ws b.count) some (omega arith)
        ∙ ap (λ (t : Bool). within (length ws)
        (record {
          members = λ q. choose (in_region i k q) t ((view ws b.count).members q);
          count = choose t
              (max (view ws b.count).count ((i + k - 1) / 64 + 1)) (view ws b.count).count;
        })) ev
        ∙ within_ok (length ws) s (omega (arith, word, view-count ws b.count, p.inside)))
        (record {
          long = ap length ew ∙ (fills i (last + 1) true z).long ∙ long;
          fits = λ m a. subst (λ (y : List ℕ). get_or y m 0 < 2 ^ 64) (sym ew) (filled_fit i (last + 1) true z m);
          used = λ m j a l.
              ap (λ (y : List ℕ). bit (get_or y m 0) j) ew ∙ filled-bit i (last + 1) true z m j (omega (arith, long, view-count ws b.count, word, p.inside)) l
              ∙ ap₂ (λ (t : Bool) (u : Bool). choose (leb i (64 * m + j) && t) true u) (ap (ltb (64 * m + j)) e) (grown m j (omega (arith, view-count ws b.count, word)) l);
          dropped = λ m a q. absurd (omega (arith, view-count ws b.count));
          kept = λ m a q.
              ap (λ (y : List ℕ). get_or y m 0) ew ∙ filled-past i (last + 1) true z m fz (omega (arith, view-count ws b.count, word))
              ∙ ap (λ (y : List ℕ). get_or y m 0) ez ∙ zeroed_out b.count (last / 64 + 1) ws m (inr (omega (arith, view-count ws b.count, word)));
        })
        (er ∙ ap₂ (λ (x y : ℕ). max x (y + 1)) (sym (view-count ws b.count)) (sym word))
      where
        s : Bits
        s = record { members = λ q. choose (in_region i k q) true ((view ws b.count).members q); count = max (view ws b.count).count ((i + k - 1) / 64 + 1) }

        word : (i + k - 1) / 64 ≡ last / 64
        word = ap (λ (x : ℕ). x / 64) (omega arith)

        long : length z ≡ length ws
        long = ap length ez ∙ length-zeroed b.count (last / 64 + 1) ws

        fz : Fit z
        fz = subst Fit (sym ez) (zeroed_fit b.count (last / 64 + 1) ws f)

        grown : (m j : ℕ) → m < max b.count (last / 64 + 1) → j < 64 → bit (get_or z m 0) j ≡ (view ws b.count).members (64 * m + j)
        grown m j a l =
            ap (λ (y : List ℕ). bit (get_or y m 0) j) ez
            ∙ by_lt m b.count
            (λ q. grown-bit ws b.count (last / 64 + 1) m j (inl q) l)
            (λ q. grown-bit ws b.count (last / 64 + 1) m j (inr (omega arith)) l)
