-- Every member moved up or down.
use mathlib.Core.Path.{◌≡◌, refl, sym, ap, ap₂, ◌∙◌}
use mathlib.Core.Bool.{Bool}
use mathlib.Core.List.{List, ◌++◌}
use Prim.Native.Nat.{ℕ, suc, ◌+◌, ◌/◌, ◌^◌, ◌≤◌, ◌<◌, max}
use native.Mathlib.Omega.{arith}
use lib.ListN.{length, take, drop}
use Rattle.word.specs.Places.{member, words_of}
use Rattle.word.proofs.Lists.{Fit}
use Rattle.arch.specs.Scans.{nonzero_len}
use Rattle.storage.specs.Stores.{Bits, with_count, view, held, words_for, trimmed, zeroed, Changes}
use Rattle.storage.specs.Guards.{Passed}
use Rattle.storage.specs.declared.Bitmap.{Bitmap}
use Rattle.storage.specs.declared.Refusal.TheVariants.{IndexOver, NoSpace}
use Rattle.storage.proofs.Checks.{within_ok, within_no}
use Rattle.storage.proofs.Views.{view-count, view-whole}
use Rattle.storage.proofs.Stores.{changes_done, changes-refused, keeps_changes}
use Rattle.storage.proofs.Grown.{grown_members, grown-part, part-trimmed, part-trimmed-length}
use Rattle.shifts.specs.Shifts.{moved_up, moved_down}
use Rattle.shapes.specs.Shapes.{top_of, raising, lowered, lowering}
use Rattle.shapes.proofs.Cases.{raised, raise_none, raise_over, raise_put}
use Rattle.storage.specs.Refusals.{refusing}
use Rattle.std.specs.Prelude.{Ok}

module _ (ws : List ℕ) (b : Bitmap) (k : ℕ) (f : Fit ws) (p : Passed ws b) where
  pub left-nothing : top_of (held ws b) ≡ 0 → Changes (raising k) ws b (Ok b) ws
  left-nothing e = keeps_changes (raising k) ws b f p (raise_none k (length ws) (held ws b) e)

  module _ (top : ℕ) (e : top_of (held ws b) ≡ suc top) where
    pub left_over : 2 ^ 64 < suc (top + k) → Changes (raising k) ws b (refusing b IndexOver) ws
    left_over h =
        changes-refused (raising k) ws b IndexOver p (raise_over k (length ws) (held ws b) (omega arith) (omega arith))

    count : words_for (top_of (held ws b) + k) ≡ (top + k) / 64 + 1
    unfolding words_for
    count = ap (λ (x : ℕ). (x + k + 63) / 64) e ∙ omega arith

    pub left_no_space : suc (top + k) ≤ 2 ^ 64 → length ws ≤ (top + k) / 64 → Changes (raising k) ws b (refusing b NoSpace) ws
    left_no_space l h =
        changes-refused (raising k) ws b NoSpace p
        (raise_put k (length ws) (held ws b) (omega arith) (omega arith) ∙ within_no (length ws) (raised k (held ws b)) (omega (arith, count)))

    pub left-changes : (z part : List ℕ) (m : ℕ) → suc (top + k) ≤ 2 ^ 64 → (top + k) / 64 < length ws → z ≡ zeroed b.count ((top + k) / 64 + 1) ws
        → m ≡ max b.count ((top + k) / 64 + 1) → part ≡ words_of (moved_up k (member (take m z))) (length (take m z))
        → Changes (raising k) ws b (Ok (with_count b m)) (part ++ drop m z)
    left-changes z part m l h ez em ep =
        changes_done (raising k) ws b (part ++ drop m z) s m p
        (raise_put k (length ws) (view ws n) (omega arith) (omega arith) ∙ within_ok (length ws) s (omega (arith, c, p.inside)))
        (grown-part ws z n ((top + k) / 64 + 1) ez m part (moved_up k (view ws n).members) s em (omega (arith, p.inside)) (omega (arith, c))
        (ep ∙ ap (λ (g : ℕ → Bool). words_of (moved_up k g) (length (take m z))) (grown_members ws z n ((top + k) / 64 + 1) ez m em (omega (arith, p.inside))))
        (λ i q. refl) (λ i q r. absurd (omega (arith, c))))
        (omega (arith, c))
      where
        n : ℕ
        n = b.count

        s : Bits
        s = raised k (view ws n)

        c : max (held ws b).count (words_for (top_of (held ws b) + k)) ≡ max b.count ((top + k) / 64 + 1)
        c = ap₂ max (view-count ws b.count) count

  pub right_changes : (part : List ℕ) (r : ℕ) → part ≡ words_of (moved_down k (member (take b.count ws))) (length (take b.count ws))
      → r ≡ nonzero_len (take b.count (part ++ drop b.count ws)) → Changes (lowering k) ws b (Ok (with_count b r)) (part ++ drop b.count ws)
  unfolding lowering lowered
  right_changes part r ep er =
      changes_done (lowering k) ws b (part ++ drop n ws) (trimmed s) r p refl
      (part-trimmed ws part n (moved_down k (view ws n).members) s f p.inside is (view-count ws n) (λ i l. refl))
      (er ∙ part-trimmed-length ws part n (moved_down k (view ws n).members) s f p.inside is (view-count ws n) (λ i l. refl))
    where
      n : ℕ
      n = b.count

      s : Bits
      s = record { members = moved_down k (view ws n).members; count = (view ws n).count }

      is : part ≡ words_of (moved_down k (view ws n).members) (length (take n ws))
      is = ep ∙ ap (λ (g : ℕ → Bool). words_of (moved_down k g) (length (take n ws))) (sym (view-whole ws n p.inside))
