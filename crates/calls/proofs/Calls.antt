-- What crosses, from the call's own contract and from that of the function that hands its answer out.
use Prim.Native.Nat.{ℕ}
use mathlib.Core.Path.{◌≡◌}
use mathlib.Core.List.{List}
use Rattle.storage.specs.Stores.{Op, Changes, bitmap_of}
use Rattle.shapes.specs.Shapes.{Splits}
use Rattle.style.specs.declared.Style.{Style}
use Rattle.print.specs.Texts.{Prints}
use Rattle.register.specs.Register.{Registers}
use Rattle.sheet.specs.Reads.{Reads}
use Rattle.plain.specs.Writer.{Left, Writes}
use Rattle.answers.specs.Answers.{ChangeOut, SplitOut, FoundOut, AmountOut, TruthOut, ReadingOut, AddedOut}
use Rattle.calls.specs.Calls.{Changed, Printed, Registered, Read, Written}
use Rattle.calls.specs.Calls as calls
use Rattle.storage.specs.Refusals.{Found, Amount, Truth, Change}
use Rattle.sheet.specs.Reads.{Reading}
use Rattle.shapes.specs.Shapes.{Split}

pub changed : {op : Op} {ws ws' : List ℕ} {n r n' : ℕ} {a : Change} → Changes op ws (bitmap_of n) a ws' → ChangeOut a r n' → Changed op ws n r ws' n'
changed h k = record { out = rw h.answers at k; leaves = h.leaves }

pub split : {at : ℕ} {ws ts ws' ts' : List ℕ} {n r n' t : ℕ} {a : Split}
    → Splits at ws (bitmap_of n) ts a ws' ts' → SplitOut a r n' t → calls.SplitOff at ws n ts r ws' n' ts' t
split h k = record { out = rw h.answers at k; head = h.head; tail = h.tail }

pub found : {a b : Found} {r f v : ℕ} → a ≡ b → FoundOut a r f v → FoundOut b r f v
found h k = rw h at k

pub amount : {a b : Amount} {r v : ℕ} → a ≡ b → AmountOut a r v → AmountOut b r v
amount h k = rw h at k

pub truth : {a b : Truth} {r v : ℕ} → a ≡ b → TruthOut a r v → TruthOut b r v
truth h k = rw h at k

pub printed : {y : Style} {ws bs bs' : List ℕ} {n r v : ℕ} {a : Amount} → Prints y ws (bitmap_of n) bs a bs' → AmountOut a r v → Printed y ws n bs r bs' v
printed h k = record { out = rw h.answers at k; leaves = h.leaves }

pub registered : {ws bs bs' : List ℕ} {n r v : ℕ} {a : Amount} → Registers ws (bitmap_of n) bs a bs' → AmountOut a r v → Registered ws n bs r bs' v
registered h k = record { out = rw h.answers at k; leaves = h.leaves }

pub read : {e : ℕ} {sheet ws res res' : List ℕ} {n r i m : ℕ} {a : Reading} → Reads e sheet ws (bitmap_of n) res a res' → ReadingOut a r i m → Read e sheet ws n res r res' i m
read h k = record { out = rw h.answers at k; leaves = h.leaves }

pub written : {l : Left} {buf' : List ℕ} {n r n' : ℕ} {a : Amount} → Writes l a buf' → AddedOut a n r n' → Written l n r buf' n'
written h k = record { out = rw h.answers at k; leaves = h.leaves }
