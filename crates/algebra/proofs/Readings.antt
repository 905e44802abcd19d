-- A call that reads two bitmaps: its answer by the words in use.
use Rattle.std.proofs.Common.{◌≡◌, ℕ, ◌^◌, ◌<◌, Bool, eqb, List, length, take, sym, ap, ◌∙◌, arith, Ok, Err}
use Rattle.arch.specs.Scans.{is_zero, count_set}
use Rattle.arch.proofs.Promises.{count_is_whole}
use Rattle.pairs.specs.declared.SetOp.{SetOp}
use Rattle.pairs.proofs.Tables.{by_length, by_fit}
use Rattle.storage.specs.Stores.{checked, size, combined}
use Rattle.storage.specs.Guards.{PassedTwo}
use Rattle.storage.specs.declared.Bitmap.{Bitmap}
use Rattle.storage.proofs.Checks.{both_raised}
use Rattle.storage.proofs.Combined.{size-all, zero_words, part_short, made_words, both_read}
use Rattle.algebra.specs.Algebra.{empty_of, count_of}
use Rattle.storage.specs.Refusals.{Amount, Truth, passing, refusing}
use Rattle.std.specs.Prelude.{IsErr, IsErrAnd}
use Rattle.storage.specs.declared.Refused.{Refused}

module _ (op : SetOp) (ws : List ℕ) (b : Bitmap) (os : List ℕ) (o : Bitmap) where
  pub tested : {t : Bool} → PassedTwo ws b os o → t ≡ is_zero (made_words op ws b os o) → Ok t ≡ empty_of op ws b os o
  unfolding empty_of
  tested p e =
      ap Ok (e ∙ zero_words (made_words op ws b os o) (by_fit op (take b.count ws) (take o.count os)))
      ∙ sym (both_read op ws b os o Err (λ s. Ok (eqb (size s) 0)) p)

  pub test_raised : {r : Truth} {e : Refused} → IsErr r × IsErrAnd r (λ x. x ≡ e.0) → Err e ≡ checked ws b (refusing b) (checked os o (refusing b) passing)
      → r ≡ empty_of op ws b os o
  unfolding empty_of
  test_raised q p = both_raised ws b os o (λ s t. Ok (eqb (size (combined op s t)) 0)) q p

  pub counted : {x : ℕ} → PassedTwo ws b os o → x ≡ count_set (made_words op ws b os o) → Ok x ≡ count_of op ws b os o
  unfolding count_of
  counted p e =
      ap Ok (e ∙ count_is_whole (made_words op ws b os o) short ∙ sym (size-all (made_words op ws b os o)))
      ∙ sym (both_read op ws b os o Err (λ s. Ok (size s)) p)
    where
      short : length (made_words op ws b os o) < 2 ^ 58
      short = omega (arith, by_length op (take b.count ws) (take o.count os), part_short ws b p.own, part_short os o p.other)

  pub count_raised : {r : Amount} {e : Refused} → IsErr r × IsErrAnd r (λ x. x ≡ e.0) → Err e ≡ checked ws b (refusing b) (checked os o (refusing b) passing)
      → r ≡ count_of op ws b os o
  unfolding count_of
  count_raised q p = both_raised ws b os o (λ s t. Ok (size (combined op s t))) q p
