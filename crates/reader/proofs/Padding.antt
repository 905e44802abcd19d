-- A store whose words past the count are zero.
use Prim.Native.Nat.{ℕ, ◌^◌, ◌≤◌, ◌<◌}
use mathlib.Core.Path.{◌≡◌, sym, ◌∙◌, subst}
use mathlib.Core.List.{List}
use native.Mathlib.Omega.{arith}
use lib.ListN.{length, get_or}
use Rattle.word.proofs.Cases.{by_lt}
use Rattle.word.proofs.Lists.{Fit, past}
use Rattle.storage.specs.Stores.{Bits, no_words, view, written, bitmap_of}
use Rattle.storage.specs.Guards.{Passed}
use Rattle.storage.proofs.Checks.{passed_as}
use Rattle.storage.proofs.Views.{view-count, view_in}
use Rattle.storage.proofs.Stores.{Stored, stored_written, written_stored, length-written}
use Rattle.reader.specs.Kernels.{Padded}

-- it is the store that a reading leaves of any other of its length
pub padded_written : (res ws : List ℕ) (n : ℕ) → length ws ≡ length res → Fit ws → Padded ws (bitmap_of n) → ws ≡ written res (length res) (view ws n)
padded_written res ws n e f p =
    stored_written res (length res) (view ws n) ws
    (record {
      long = e;
      fits = λ k l. f k;
      used = λ k j l m. sym (view_in ws n k j (omega (arith, view-count ws n)) m);
      dropped = λ k l m. p.zeros k (omega (arith, view-count ws n));
      kept = λ k l m. past ws k (omega arith) ∙ sym (past res k m);
    })

module _ (ws : List ℕ) (n : ℕ) (s : Bits) (h : s.count ≤ length ws) (l : n ≤ length ws) where
  t : Stored ws n s (written ws n s)
  t = written_stored ws n s h l

  pub written_fit : Fit ws → Fit (written ws n s)
  written_fit f k =
      by_lt k s.count
      (λ a. t.fits k a)
      (λ a. by_lt k n
      (λ b. subst (λ (x : ℕ). x < 2 ^ 64) (sym (t.dropped k a b)) (omega arith))
      (λ b. subst (λ (x : ℕ). x < 2 ^ 64) (sym (t.kept k a b)) (f k)))

  pub written_padded : Passed ws no_words → ((k : ℕ) → n ≤ k → get_or ws k 0 ≡ 0) → Padded (written ws n s) (bitmap_of s.count)
  written_padded p z = record {
    passes = passed_as ws (written ws n s) no_words s.count (length-written ws n s) h p;
    zeros = λ k a. by_lt k n (λ b. t.dropped k a b) (λ b. t.kept k a b ∙ z k b);
  }
