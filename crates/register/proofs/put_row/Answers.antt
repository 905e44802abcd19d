-- The line of a run is put, blank for an empty one.
use mathlib.Core.Path.{ap, ◌∙◌}
use mathlib.Core.List.{List}
use Prim.Native.Nat.{ℕ}
use Rattle.print.specs.Kernels.{put_at}
use Rattle.register.proofs.Rows.{row_some, row_none}
use Rattle.register.proofs.put_row.Goals as goal

pub returns-then-run : goal.returns-then-run
returns-then-run c = c.put_line.ensures ∙ ap (λ (t : List ℕ). put_at c.args.at t c.args.out.now) (row_some c.args.run c.if-run.true)

pub returns : goal.returns
returns c = c.put_end.ensures.leaves ∙ ap (λ (t : List ℕ). put_at c.args.at t c.args.out.now) (row_none c.args.run c.if-run.false)
