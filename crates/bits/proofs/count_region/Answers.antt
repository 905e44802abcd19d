-- The guard, then 0 for i from the length on, then the set bits from i on, below i + k and the length.
use mathlib.Core.Path.{sym, ap, ◌∙◌}
use Prim.Native.Nat.{ℕ, ◌+◌}
use Rattle.storage.proofs.Checks.{passed, reading_ok}
use Rattle.bits.proofs.Counts.{region_none, region-counted}
use Rattle.bits.proofs.count_region.Goals as goal
use Rattle.std.specs.Prelude.{Ok}

pub returns-then-i-n : goal.returns-then-i-n
returns-then-i-n c =
    let ok = passed c.args.words.now c.args.b (sym c.in_ok-check.was ∙ c.check.ensures) in
    ap Ok (region_none _ _ _ _ c.if-i-n.true) ∙ sym (reading_ok _ _ _ _ ok)

pub returns : goal.returns
returns c =
    let ok = passed c.args.words.now c.args.b (sym c.in_ok-check.was ∙ c.check.ensures) in
    ap Ok (region-counted _ _ _ _ _ _ ok.inside c.if-i-n.false
    (ap (λ (x : ℕ). c.args.i + x) c.min.ensures)
    c.count_between.ensures) ∙ sym (reading_ok _ _ _ _ ok)
