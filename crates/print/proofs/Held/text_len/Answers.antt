-- The length of the bitmap's text. Loop: `at` is the length of the text of the runs before `run`, and what follows is the text of the others.
use mathlib.Core.Path.{sym, ap, ◌∙◌}
use native.Mathlib.Omega.{arith}
use lib.ListN.{length}
use Rattle.storage.proofs.Views.{bounded_view, view_out}
use Rattle.print.proofs.Printing.{going_start, going_end, printable, run_short, end-within, going_more}
use Rattle.print.proofs.Held.text_len.Goals as goal

pub loop-run-init : goal.loop-run-init
loop-run-init c = going_start _ _ (bounded_view _ _) _ _ c.next_run-run.ensures

pub run_end-at-requires : goal.run_end-at-requires
run_end-at-requires c = (
  c.requires,
  printable _ c.requires _ _ (view_out _ _) (omega (arith, c.args.self.now.passes)) _ _
      c.loop-run.invariant c.loop-run-test.true,
  run_short _ c.requires _ _ (view_out _ _) (omega (arith, c.args.self.now.passes)) _ _
      c.loop-run.invariant c.loop-run-test.true,
)

pub next_run-run-requires-in-loop-run : goal.next_run-run-requires-in-loop-run
next_run-run-requires-in-loop-run c =
    end-within _ c.requires _ _ (view_out _ _) (omega (arith, c.args.self.now.passes)) _ _
    c.loop-run.invariant c.loop-run-test.true

pub loop-run-preserved : goal.loop-run-preserved
loop-run-preserved c =
    going_more _ c.requires _ _ (view_out _ _)
    (omega (arith, c.args.self.now.passes)) _ _ c.loop-run.invariant c.loop-run-test.true _ _
    c.run_end-at.ensures c.next_run-run-in-loop-run.ensures

pub returns : goal.returns
returns c =
    c.loop-run.invariant.at_is
    ∙ sym (ap length (going_end _ c.requires _ _ (view_out _ _) (omega (arith, c.args.self.now.passes)) _ _
    c.loop-run.invariant c.loop-run-test.false))
