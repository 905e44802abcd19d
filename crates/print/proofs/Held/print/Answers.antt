-- The text of the bitmap is put at the front, the bytes past it as they were. Loop: the `at` bytes of the runs before `run` are put, the others as they were.
use native.Mathlib.Omega.{arith}
use Rattle.storage.proofs.Views.{bounded_view, view_out}
use Rattle.print.proofs.Printing.{printable, end-within, shown-start, shown-room, shown-more, shown-end}
use Rattle.print.proofs.Held.print.Goals as goal

pub loop-run-init : goal.loop-run-init
loop-run-init c = shown-start _ _ (bounded_view _ _) _ _ _ c.next_run-run.ensures

pub put_run-at-requires : goal.put_run-at-requires
put_run-at-requires c = (
  c.requires.0,
  printable _ c.requires.0 _ _ (view_out _ _)
      (omega (arith, c.args.self.now.passes)) _ _ c.loop-run.invariant.going c.loop-run-test.true,
  shown-room _ c.requires.0 _ _ (view_out _ _)
      (omega (arith, c.args.self.now.passes)) _ c.requires.1 _ _ _
      c.loop-run.invariant c.loop-run-test.true,
)

pub next_run-run-requires-in-loop-run : goal.next_run-run-requires-in-loop-run
next_run-run-requires-in-loop-run c =
    end-within _ c.requires.0 _ _ (view_out _ _)
    (omega (arith, c.args.self.now.passes)) _ _
    c.loop-run.invariant.going c.loop-run-test.true

pub loop-run-preserved : goal.loop-run-preserved
loop-run-preserved c =
    shown-more _ c.requires.0 _ _ (view_out _ _)
    (omega (arith, c.args.self.now.passes)) _
    c.requires.1 _ _ _ c.loop-run.invariant
    c.loop-run-test.true _ _ _ c.put_run-at.ensures c.next_run-run-in-loop-run.ensures

pub returns : goal.returns
returns c =
    shown-end _ c.requires.0 _ _ (view_out _ _) (omega (arith, c.args.self.now.passes)) _
    c.requires.1 _ _ _ c.loop-run.invariant c.loop-run-test.false
