-- The calls, from what the kernels leave.
use mathlib.Core.Path.{◌≡◌, refl, sym, ap, ◌∙◌}
use mathlib.Core.Bool.{Bool}
use mathlib.Core.List.{List, ◌++◌}
use Prim.Native.Nat.{ℕ, suc, ◌+◌, ◌/◌, ◌^◌, ◌≤◌, ◌<◌, max}
use native.Mathlib.Omega.{arith}
use lib.ListN.{length, take, drop}
use Rattle.word.specs.Places.{member, words_of}
use Rattle.word.proofs.Lists.{Fit}
use Rattle.arch.specs.Scans.{nonzero_len}
use Rattle.storage.specs.Stores.{Bits, with_count, view, held, within, words_for, trimmed, zeroed, Changes}
use Rattle.storage.specs.Guards.{Passed}
use Rattle.storage.specs.declared.Bitmap.{Bitmap}
use Rattle.storage.specs.declared.Refusal.TheVariants.{IndexOver, NoSpace}
use Rattle.storage.proofs.Checks.{within_ok, within_no}
use Rattle.storage.proofs.Views.{view-count, view-whole, bounded_view}
use Rattle.storage.proofs.Stores.{changes_done, changes-refused, changes-same}
use Rattle.storage.proofs.Trims.{trimmed-le}
use Rattle.storage.proofs.Grown.{grown_members, grown-part, part-trimmed, part-trimmed-length}
use Rattle.bitmaps.specs.Bitmaps.{trimming}
use Rattle.shapes.specs.Shapes.{top_of}
use Rattle.gap.specs.Gaps.{opening, closing}
use Rattle.gap.specs.Kernels.{gap_opened, gap_closed}
use Rattle.gap.proofs.Opens.{open_none, open_over, open_put, opened_ends}
use Rattle.gap.proofs.Closes.{shut, close_done}
use Rattle.storage.specs.Refusals.{Change, refusing}
use Rattle.std.specs.Prelude.{Ok}

module _ (ws : List ℕ) (b : Bitmap) (p k : ℕ) (q : Passed ws b) where
  -- ---- opened

  -- where there is no tail, trailing zero words are dropped
  pub open_trims : (r : Change) → top_of (held ws b) ≤ p → Changes trimming ws b r ws → Changes (opening p k) ws b r ws
  unfolding trimming
  open_trims r h t =
      changes-same (opening p k) trimming ws ws b r
      (open_none p k (length ws) v (bounded_view ws b.count) h
      ∙ within_ok (length ws) (trimmed v) (omega (arith, trimmed-le v.members v.count, view-count ws b.count, q.inside)))
      t
    where
      v : Bits
      v = held ws b

  module _ (top : ℕ) (e : top_of (held ws b) ≡ suc top) (l : p ≤ top) where
    pub open_refused : 2 ^ 64 < suc (top + k) → Changes (opening p k) ws b (refusing b IndexOver) ws
    open_refused h =
        changes-refused (opening p k) ws b IndexOver q (open_over p k (length ws) (held ws b) (bounded_view ws b.count) (omega arith) (omega arith))

    module _ (low : suc (top + k) ≤ 2 ^ 64) where
      s : Bits
      s = record { members = gap_opened p k (held ws b).members; count = words_for (top_of (held ws b) + k) }

      put : opening p k (length ws) (held ws b) ≡ within (length ws) s
      unfolding s
      put = open_put p k (length ws) (held ws b) (bounded_view ws b.count) (omega arith) (omega arith)

      count : words_for (top_of (held ws b) + k) ≡ (top + k) / 64 + 1
      unfolding words_for
      count = ap (λ (x : ℕ). (x + k + 63) / 64) e ∙ omega arith

      pub open_no_space : length ws ≤ (top + k) / 64 → Changes (opening p k) ws b (refusing b NoSpace) ws
      unfolding s
      open_no_space h = changes-refused (opening p k) ws b NoSpace q (put ∙ within_no (length ws) s (omega (arith, count)))

      pub open_changes : (z part : List ℕ) (m : ℕ) → (top + k) / 64 < length ws → z ≡ zeroed b.count ((top + k) / 64 + 1) ws
          → m ≡ max b.count ((top + k) / 64 + 1) → part ≡ words_of (gap_opened p k (member (take m z))) (length (take m z))
          → Changes (opening p k) ws b (Ok (with_count b ((top + k) / 64 + 1))) (part ++ drop m z)
      unfolding s
      open_changes z part m h ez em ep =
          changes_done (opening p k) ws b (part ++ drop m z) s ((top + k) / 64 + 1) q
          (put ∙ within_ok (length ws) s (omega (arith, count)))
          (grown-part ws z b.count ((top + k) / 64 + 1) ez m part (gap_opened p k (held ws b).members) s em (omega (arith, q.inside)) (omega (arith, count))
          (ep ∙ ap (λ (g : ℕ → Bool). words_of (gap_opened p k g) (length (take m z))) (grown_members ws z b.count ((top + k) / 64 + 1) ez m em (omega (arith, q.inside))))
          (λ i a. refl)
          (λ i a c. (opened_ends p k (length ws) (held ws b) (bounded_view ws b.count) (omega arith)).over i (omega (arith, count))))
          (sym count)

  -- ---- closed

  pub close_changes : (part : List ℕ) (r : ℕ) → Fit ws → part ≡ words_of (gap_closed p k (member (take b.count ws))) (length (take b.count ws))
      → r ≡ nonzero_len (take b.count (part ++ drop b.count ws)) → Changes (closing p k) ws b (Ok (with_count b r)) (part ++ drop b.count ws)
  close_changes part r f ep er =
      changes_done (closing p k) ws b (part ++ drop n ws) (trimmed (shut p k (view ws n))) r q
      (close_done p k (length ws) (view ws n) (bounded_view ws n) (omega (arith, view-count ws b.count, q.inside)) (omega (arith, view-count ws b.count, q.inside, q.short)))
      (part-trimmed ws part n (gap_closed p k (view ws n).members) (shut p k (view ws n)) f q.inside is (view-count ws n) (λ i l. refl))
      (er ∙ part-trimmed-length ws part n (gap_closed p k (view ws n).members) (shut p k (view ws n)) f q.inside is (view-count ws n) (λ i l. refl))
    where
      n : ℕ
      n = b.count

      is : part ≡ words_of (gap_closed p k (view ws n).members) (length (take n ws))
      is = ep ∙ ap (λ (g : ℕ → Bool). words_of (gap_closed p k g) (length (take n ws))) (sym (view-whole ws n q.inside))
