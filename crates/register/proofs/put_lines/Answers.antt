-- All lines are put. Loop: the first k lines stand in the buffer, and `run` is the next to be printed.
use Rattle.storage.proofs.Views.{bounded_view}
use Rattle.register.proofs.Next.{next_first, small}
use Rattle.register.proofs.Printing.{printing-start, printing-more}
use Rattle.register.proofs.put_lines.Goals as goal

pub loop-k-init : goal.loop-k-init
loop-k-init c = printing-start _ (bounded_view _ _) (small c.args.held.now.passes) _ _ _ c.requires _ (next_first _ _ c.args.held.now.passes _ c.run_from-run.ensures)

pub loop-k-preserved : goal.loop-k-preserved
loop-k-preserved c =
    printing-more _ (bounded_view _ _) (small c.args.held.now.passes) _ _ _ c.requires _ _ _ c.loop-k.invariant c.loop-k-test.true _ _
    c.put_next-run.ensures.0 c.put_next-run.ensures.1
