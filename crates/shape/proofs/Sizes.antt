-- A bitmap cut, resized and joined to another.
use mathlib.Core.Path.{◌≡◌, refl, sym, ap, ap₂, ◌∙◌, subst}
use mathlib.Core.Bool.{Bool, false, ◌&&◌, ◌||◌}
use mathlib.Core.List.{List, ◌++◌}
use Prim.Native.Nat.{ℕ, ◌+◌, ◌-◌, ◌*◌, ◌/◌, ◌%◌, ◌^◌, ◌≤◌, ◌<◌, min, max}
use native.Mathlib.Omega.{arith}
use lib.ListN.{length, get_or, take, drop}
use lib.Seq.{get_or-take, length-take-le}
use lib.Dec.{leb, ltb}
use borrow.Author.Tests.{lt-ltb, le-ltb, le-leb, lt-leb}
use Rattle.word.specs.Sets.{choose}
use Rattle.word.specs.Places.{bit, words_of}
use Rattle.word.proofs.Cases.{by_lt, or-false}
use Rattle.word.proofs.Lists.{Fit}
use Rattle.word.proofs.Sweep.{Swept, part_swept}
use Rattle.arch.specs.Scans.{nonzero_len, filled}
use Rattle.storage.specs.Stores.{Bits, with_count, view, held, beside, words_for, zeroed, Changes}
use Rattle.storage.specs.Guards.{Passed}
use Rattle.storage.specs.declared.Bitmap.{Bitmap}
use Rattle.storage.specs.declared.Refusal.TheVariants.{NoSpace}
use Rattle.storage.proofs.Checks.{beside_ok, within_ok, within_no}
use Rattle.storage.proofs.Views.{view-count, view_in, view_out, view-whole}
use Rattle.storage.proofs.Stores.{Stored, changes_done, changes-refused}
use Rattle.storage.proofs.Grown.{grown_members, grown-part, part-trimmed, part-trimmed-length}
use Rattle.shifts.specs.Shifts.{moved_up}
use Rattle.shapes.specs.Shapes.{cut_at, truncated, truncating, resizing, joined, appending}
use Rattle.storage.specs.Refusals.{refusing}
use Rattle.std.specs.Prelude.{Ok}

-- what is cleared from k on, below e, of the numbers below e
cut_at_lem : (k e i : ℕ) (t : Bool) → i < e → choose (leb k i && ltb i e) false t ≡ ltb i k && t
cut_at_lem k e i t l =
    by_lt i k
    (λ h. ap (λ (x : Bool). choose (x && ltb i e) false t) (lt-leb k i h) ∙ ap (λ (x : Bool). x && t) (sym (lt-ltb i k h)))
    (λ h. ap₂ (λ (x y : Bool). choose (x && y) false t) (le-leb k i h) (lt-ltb i e l) ∙ ap (λ (x : Bool). x && t) (sym (le-ltb i k h)))

module _ (ws : List ℕ) (b : Bitmap) (k : ℕ) (f : Fit ws) (p : Passed ws b) where
  g : ℕ → Bool
  g i = choose (leb k i && ltb i (64 * b.count)) false ((held ws b).members i)

  is : (part : List ℕ) → part ≡ filled k (64 * b.count) false (take b.count ws) → part ≡ words_of g (length (take b.count ws))
  unfolding filled g
  is part ep =
      ep
      ∙ ap (λ (v : ℕ → Bool). words_of (λ i. choose (leb k i && ltb i (64 * b.count)) false (v i)) (length (take b.count ws))) (sym (view-whole ws b.count p.inside))

  pub truncate_stored : (part : List ℕ) → part ≡ filled k (64 * b.count) false (take b.count ws) → Stored ws b.count (truncated k (held ws b)) (part ++ drop b.count ws)
  unfolding truncated g
  truncate_stored part ep =
      part-trimmed ws part b.count g (cut_at k (held ws b)) f p.inside (is part ep) (view-count ws b.count) (λ i l. cut_at_lem k (64 * b.count) i ((held ws b).members i) l)

  pub truncate_count : (part : List ℕ) → part ≡ filled k (64 * b.count) false (take b.count ws)
      → nonzero_len (take b.count (part ++ drop b.count ws)) ≡ (truncated k (held ws b)).count
  unfolding truncated g
  truncate_count part ep =
      part-trimmed-length ws part b.count g (cut_at k (held ws b)) f p.inside (is part ep) (view-count ws b.count) (λ i l. cut_at_lem k (64 * b.count) i ((held ws b).members i) l)

  pub truncate_changes : (part : List ℕ) (r : ℕ) → part ≡ filled k (64 * b.count) false (take b.count ws)
      → r ≡ nonzero_len (take b.count (part ++ drop b.count ws)) → Changes (truncating k) ws b (Ok (with_count b r)) (part ++ drop b.count ws)
  unfolding truncating
  truncate_changes part r ep er =
      changes_done (truncating k) ws b (part ++ drop b.count ws) (truncated k (held ws b)) r p refl (truncate_stored part ep) (er ∙ truncate_count part ep)

  -- ---- resized

  need_is : k / 64 + min 1 (k % 64) ≡ words_for k
  unfolding words_for
  need_is = omega arith

  low : (i : ℕ) → 64 * words_for k ≤ i → k ≤ i
  unfolding words_for
  low i l = omega arith

  pub resize_refused : (need : ℕ) → need ≡ k / 64 + min 1 (k % 64) → length ws < need → Changes (resizing k) ws b (refusing b NoSpace) ws
  unfolding resizing
  resize_refused need en h = changes-refused (resizing k) ws b NoSpace p (within_no (length ws) _ (omega (arith, need_is)))

  pub resize_changes : (need m : ℕ) (z part : List ℕ) → need ≡ k / 64 + min 1 (k % 64) → need ≤ length ws → z ≡ zeroed b.count need ws → m ≡ max b.count need
      → part ≡ filled k (64 * m) false (take m z) → Changes (resizing k) ws b (Ok (with_count b need)) (part ++ drop m z)
  unfolding resizing filled
  resize_changes need m z part en h ez em ep =
      changes_done (resizing k) ws b (part ++ drop m z) s need p (within_ok (length ws) s (omega (arith, need_is)))
      (grown-part ws z n need ez m part g s em (omega (arith, p.inside)) (omega (arith, need_is))
      (ep ∙ ap (λ (v : ℕ → Bool). words_of (λ i. choose (leb k i && ltb i (64 * m)) false (v i)) (length (take m z))) (grown_members ws z n need ez m em (omega (arith, p.inside))))
      (λ i l. cut_at_lem k (64 * m) i ((view ws n).members i) (omega (arith, need_is)))
      (λ i l q. cut_at_lem k (64 * m) i ((view ws n).members i) q ∙ ap (λ (x : Bool). x && (view ws n).members i) (le-ltb i k (low i l))))
      (en ∙ need_is)
    where
      n : ℕ
      n = b.count

      s : Bits
      s = record { members = (cut_at k (view ws n)).members; count = words_for k }

      g : ℕ → Bool
      g i = choose (leb k i && ltb i (64 * m)) false ((view ws n).members i)

-- ---- joined

module _ (ws os : List ℕ) (b o : Bitmap) (f : Fit ws) (fo : Fit os) (p : Passed ws b) (q : Passed os o) where
  both : Bits
  both = joined (held os o) (held ws b)

  count : (held ws b).count + (held os o).count ≡ b.count + o.count
  count = ap₂ (λ (x y : ℕ). x + y) (view-count ws b.count) (view-count os o.count)

  pub append-refused : length ws < b.count + o.count → Changes (beside os o appending) ws b (refusing b NoSpace) ws
  unfolding appending both
  append-refused h =
      changes-refused (beside os o appending) ws b NoSpace p
      (beside_ok os o appending (length ws) (held ws b) q ∙ within_no (length ws) both (omega (arith, count)))

  pub append-changes : (r : ℕ) (part : List ℕ) → b.count + o.count ≤ length ws → part ≡ take o.count os → r ≡ b.count + o.count
      → Changes (beside os o appending) ws b (Ok (with_count b r))
      (take b.count ws ++ (part ++ drop (b.count + o.count - b.count) (drop b.count ws)))
  unfolding appending both moved_up
  append-changes r part h ep er =
      changes_done (beside os o appending) ws b ws' both r p
      (beside_ok os o appending (length ws) (view ws n) q ∙ within_ok (length ws) both (omega (arith, count)))
      (record {
        long = s.long;
        fits = λ k a.
            by_lt k n
            (λ c. subst (λ (x : ℕ). x < 2 ^ 64) (sym (s.below k c)) (f k))
            (λ c. subst (λ (x : ℕ). x < 2 ^ 64) (sym (second k c (omega (arith, count)))) (fo (k - n)));
        used = λ k j a l.
            by_lt k n
            (λ c.
            ap (λ (x : ℕ). bit x j) (s.below k c) ∙ sym (view_in ws n k j c l)
            ∙ sym (ap (λ (t : Bool). (view ws n).members (64 * k + j) || (t && (held os o).members (64 * k + j - 64 * (view ws n).count)))
            (lt-leb (64 * (view ws n).count) (64 * k + j) (omega (arith, view-count ws n)))
            ∙ or-false ((view ws n).members (64 * k + j))))
            (λ c.
            ap (λ (x : ℕ). bit x j) (second k c (omega (arith, count)))
            ∙ sym (view_in os o.count (k - n) j (omega (arith, count)) l)
            ∙ ap (held os o).members (omega (arith, view-count ws n))
            ∙ sym (ap₂ (λ (t u : Bool). t || (u && (held os o).members (64 * k + j - 64 * (view ws n).count))) (view_out ws n (64 * k + j) (omega arith))
            (le-leb (64 * (view ws n).count) (64 * k + j) (omega (arith, view-count ws n)))));
        dropped = λ k a c. absurd (omega (arith, count, view-count ws n));
        kept = λ k a c. s.above k (omega (arith, count));
      })
      (er ∙ sym count)
    where
      n : ℕ
      n = b.count

      ws' : List ℕ
      ws' = take b.count ws ++ (part ++ drop (b.count + o.count - b.count) (drop b.count ws))

      s : Swept ws (λ k. get_or part (k - n) 0) n (n + o.count) ws'
      s = part_swept ws part n (n + o.count) (omega arith) h (ap length ep ∙ length-take-le o.count os q.inside ∙ omega arith)

      second : (k : ℕ) → n ≤ k → k < n + o.count → get_or ws' k 0 ≡ get_or os (k - n) 0
      second k c l = s.fresh k c l ∙ ap (λ (y : List ℕ). get_or y (k - n) 0) ep ∙ get_or-take o.count os (k - n) 0 (omega arith)
