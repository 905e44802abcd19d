-- What the writer answers and leaves, where it does.
use Prim.Native.Nat.{ℕ, ◌≤◌, ◌<◌}
use mathlib.Core.Path.{◌≡◌, sym, ap}
use mathlib.Core.List.{List, [], ◌∷◌}
use lib.ListN.{length}
use lib.Seq.{sets}
use borrow.Author.Tests.{lt-ltb, le-ltb}
use Rattle.storage.specs.declared.Refusal.TheVariants.{NoSpace}
use Rattle.plain.specs.Writer.{Left, Writes, Starts, started, refuse}
use Rattle.editions.proofs.Turns.{take-true, take-false}
use Rattle.std.specs.Prelude.{Ok, Err}

pub writes : (l m : Left) → l ≡ m → Writes l m.answer m.buffer
writes l m e = record { answers = ap (λ (x : Left). x.answer) (sym e); leaves = ap (λ (x : Left). x.buffer) (sym e) }

module _ (buf : List ℕ) where
  pub starts_small : length buf < 4 → Starts buf (Err NoSpace) buf
  unfolding started
  starts_small h = writes _ (refuse NoSpace buf) (take-true _ _ (lt-ltb (length buf) 4 h))

  pub starts : 4 ≤ length buf → Starts buf (Ok 4) (sets buf 0 (78 ∷ 83 ∷ 0 ∷ 0 ∷ []))
  unfolding started
  starts h = writes _ (record { answer = Ok 4; buffer = sets buf 0 (78 ∷ 83 ∷ 0 ∷ 0 ∷ []) }) (take-false _ _ (le-ltb (length buf) 4 h))
