-- The last m words go before the others. Loop: behind `low` and `high` all are in place, the first `low` are due `high` up, the next `high` are due `low` down.
use mathlib.Core.Path.{refl, sym, ◌∙◌}
use native.Mathlib.Omega.{arith}
use lib.Seq.{length-take-le}
use Rattle.moves.proofs.Swaps.{turning_none, turning_low, turning_high, turning_all}
use Rattle.moves.proofs.turn_blocks.Goals as goal

pub loop-low-init : goal.loop-low-init
loop-low-init c = (omega arith, refl, omega arith, turning_none _ _ (omega arith))

pub swap_words-requires : goal.swap_words-requires
swap_words-requires c = (omega arith, omega (arith, c.loop-low.invariant.1))

pub loop-low-preserved-then-high-low : goal.loop-low-preserved-then-high-low
loop-low-preserved-then-high-low c = (
  omega arith,
  c.swap_words.ensures.long ∙ c.loop-low.invariant.1,
  c.loop-low.invariant.2,
  turning_low _ _ _ _ _
      c.loop-low.invariant.3 (omega arith) c.swap_words.ensures,
)

pub swap_words-requires-else-high-low : goal.swap_words-requires-else-high-low
swap_words-requires-else-high-low c = (omega arith, omega (arith, c.loop-low.invariant.1))

pub loop-low-preserved : goal.loop-low-preserved
loop-low-preserved c = (
  omega arith,
  c.swap_words-else-high-low.ensures.long ∙ c.loop-low.invariant.1,
  c.loop-low.invariant.2,
  turning_high _ _ _ _ _
      c.loop-low.invariant.3 (omega arith) c.swap_words-else-high-low.ensures,
)

pub slice_bounds-turn_held-end : goal.slice_bounds-turn_held-end
slice_bounds-turn_held-end c = omega (arith, c.loop-low.invariant.1)

pub slice_bounds-turn_held-end-2 : goal.slice_bounds-turn_held-end-2
slice_bounds-turn_held-end-2 c = sym (length-take-le _ _ (omega (arith, c.loop-low.invariant.1)))

pub returns : goal.returns
returns c =
    turning_all c.args.words.now _ _ _ _ _
    c.loop-low.invariant.2 c.loop-low.invariant.1
    (omega (arith, c.loop-low.invariant.1))
    c.loop-low.invariant.3 c.turn_held.ensures
