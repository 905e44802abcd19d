-- Line k is put: a foot, and the run waits; or the run's row, and the next run is sought.
use Rattle.storage.proofs.Views.{bounded_view}
use Rattle.register.proofs.Next.{next_more, small}
use Rattle.register.proofs.Printing.{line-room, foot_narrow, foot-put, foot-more, row_narrow, row_put, row_more}
use Rattle.register.proofs.put_next.Goals as goal

pub put_line-requires : goal.put_line-requires
put_line-requires c =
    let n = foot_narrow _ (bounded_view _ _) (small c.args.held.now.passes) _ _ _ c.requires.0 _ c.requires.2 in
    (n.0, n.1, n.2, line-room _ (bounded_view _ _) (small c.args.held.now.passes) _ _ _ c.requires.0 _ c.requires.2)

pub returns-then-k-eq-RUNS : goal.returns-then-k-eq-RUNS
returns-then-k-eq-RUNS c = (
  foot-more _ (bounded_view _ _) (small c.args.held.now.passes) _ _ _ c.requires.0 _ c.requires.2 _ c.requires.1 c.if-k-eq-RUNS.true,
  foot-put _ (bounded_view _ _) (small c.args.held.now.passes) _ _ _ c.requires.0 _ c.requires.2 _ c.if-k-eq-RUNS.true c.put_line.ensures,
)

pub put_row-requires : goal.put_row-requires
put_row-requires c = (
  row_narrow _ (bounded_view _ _) (small c.args.held.now.passes) _ _ _ c.requires.0 _ c.requires.2 _ c.requires.1,
  line-room _ (bounded_view _ _) (small c.args.held.now.passes) _ _ _ c.requires.0 _ c.requires.2,
)

pub returns : goal.returns
returns c = (
  row_more _ (bounded_view _ _) (small c.args.held.now.passes) _ _ _ c.requires.0 _ c.requires.2 _ c.requires.1 _ c.if-k-eq-RUNS.false
      (next_more _ _ c.args.held.now.passes _ _ c.requires.1 _ c.run_from.ensures),
  row_put _ (bounded_view _ _) (small c.args.held.now.passes) _ _ _ c.requires.0 _ c.requires.2 _ c.requires.1 _ c.if-k-eq-RUNS.false c.put_row.ensures,
)
