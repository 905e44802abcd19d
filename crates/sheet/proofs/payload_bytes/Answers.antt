-- The payload's bytes of a kind: none for kind 0, then none past the table, then none where its row is newer than the edition, then the row's.
use mathlib.Core.Path.{sym, ap, ◌∙◌}
use native.Mathlib.Omega.{arith}
use borrow.Author.Tests.{ltb-true, ltb-false}
use Rattle.sheet.proofs.Tables.{no_kind, past_kinds, row_newer, row-bytes}
use Rattle.sheet.specs.Kinds.{known}
use Rattle.sheet.proofs.payload_bytes.Goals as goal

pub returns-then-kind-eq0 : goal.returns-then-kind-eq0
returns-then-kind-eq0 c = sym (no_kind _ _ (omega arith))

pub returns-in_err-row : goal.returns-in_err-row
returns-in_err-row c = c.from_residual.ensures ∙ sym (ap known (past_kinds c.args.edition c.args.kind (omega (arith, ltb-false c.args.kind 12 (sym c.in_err-row.ensures.lookup.0)))))

pub returns-then-row-edition : goal.returns-then-row-edition
returns-then-row-edition c = row_newer c.args.edition c.args.kind c.in_ok-row.row.now c.in_ok-row.ensures.lookup.1 (omega arith) (omega (arith, ltb-true c.args.kind 12 (sym c.in_ok-row.ensures.lookup.0))) (omega arith)

pub returns : goal.returns
returns c = row-bytes c.args.edition c.args.kind c.in_ok-row.row.now c.in_ok-row.ensures.lookup.1 (omega arith) (omega (arith, ltb-true c.args.kind 12 (sym c.in_ok-row.ensures.lookup.0))) (omega arith)
