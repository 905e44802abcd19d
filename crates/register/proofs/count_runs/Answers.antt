-- How many runs there are. Loop: n runs were met, and `run` is the first of the others.
use native.Mathlib.Omega.{arith}
use Prim.Native.Nat.{ℕ, ◌<◌}
use mathlib.Core.List.{List}
use lib.ListN.{length}
use Rattle.storage.specs.Stores.{held}
use Rattle.storage.specs.Guards.{Passed}
use Rattle.storage.specs.declared.Bitmap.{Bitmap}
use Rattle.print.specs.declared.Run.{Run}
use Rattle.storage.proofs.Views.{bounded_view}
use Rattle.print.specs.Texts.{runs}
use Rattle.register.specs.Kernels.{Ahead}
use Rattle.register.proofs.Ahead.{ahead_below, ahead_all}
use Rattle.register.proofs.Next.{next_first, next_more, next_from, within, runs_fit}
use Rattle.register.proofs.count_runs.Goals as goal

-- a run is left, so that n is not all
fewer : {ws : List ℕ} {b : Bitmap} {n : ℕ} {run : Run} → Passed ws b → Ahead (held ws b) n run → run.low < run.end → n < length (runs (held ws b))
fewer {ws} {b} {n} {run} p g h = ahead_below (held ws b) (bounded_view ws b.count) n run g h

pub loop-run-init : goal.loop-run-init
loop-run-init c = (next_first _ _ c.args.held.now.passes _ c.run_from-run.ensures, omega arith)

pub overflow_add-n : goal.overflow_add-n
overflow_add-n c = omega (arith, c.args.held.now.passes, fewer c.args.held.now.passes c.loop-run.invariant.0 c.loop-run-test.true, runs_fit _ _ c.args.held.now.passes)

pub loop-run-smaller : goal.loop-run-smaller
loop-run-smaller c = omega (arith, c.loop-run-test.true, within _ _ c.args.held.now.passes _ _ c.loop-run.invariant.0, next_from _ _ c.args.held.now.passes _ _ c.loop-run.invariant.0 _ c.run_from-run-in-loop-run.ensures)

pub loop-run-preserved : goal.loop-run-preserved
loop-run-preserved c = (
  next_more _ _ c.args.held.now.passes _ _ c.loop-run.invariant.0 _ c.run_from-run-in-loop-run.ensures,
  omega (arith, fewer c.args.held.now.passes c.loop-run.invariant.0 c.loop-run-test.true),
)

pub returns : goal.returns
returns c = omega (arith, c.loop-run.invariant.1, ahead_all _ (bounded_view _ _) _ _ c.loop-run.invariant.0 c.loop-run-test.false)
