-- What the set operations promise, with any second bitmap that has no member past its words. Each is proved in proofs/Promises, `CallsExact` in proofs/Once.
use Rattle.std.specs.Prelude.{max}
use Rattle.pairs.specs.declared.SetOp.{SetOp}
use Rattle.storage.specs.Stores.{Bits, Bounded}
use Rattle.storage.specs.Promises.{Combines, Unites, Meets, Lacks, LacksResult, MeetsExactly}
use Rattle.setops.specs.Setops.{combining, uniting}

-- `and`, `andnot`, `xor`: the numbers that come in, in the fewest words, or 6 where those are more than there are
abbrev pub CombineMeans : Type 0
CombineMeans = (op : SetOp) (o : Bits) → Bounded o → Meets (combining op o) (λ c. Combines op o) (LacksResult (Combines op o))

-- `or`: the members of either in as many words as the longer, or 6 where those are more than there are
abbrev pub UniteMeans : Type 0
UniteMeans = (o : Bits) → Bounded o → Meets (uniting o) (λ c. Unites o) (Lacks (λ b. max b.count o.count))

-- and each is exact: done where there is a result as said, with space, and refused with a number where its condition holds
pub record CallsExact : Type 0 where
  pub combine : (op : SetOp) (o : Bits) → Bounded o → MeetsExactly (combining op o) (λ c. Combines op o) (LacksResult (Combines op o))
  pub unite : (o : Bits) → Bounded o → MeetsExactly (uniting o) (λ c. Unites o) (Lacks (λ b. max b.count o.count))
