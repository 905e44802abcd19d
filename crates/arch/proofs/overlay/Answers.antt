-- Word k has the value at the mask's places, its own at the others: the mask is joined, or taken out, and past the end nothing changes.
use Rattle.std.proofs.Common.{get_or, set, sym, ap, ◌∙◌, arith}
use lib.Seq.{set_out}
use Rattle.arch.specs.Kernels.{filled_places}
use Rattle.arch.proofs.Regions.{overlaid-set, overlaid_clear}
use Rattle.arch.proofs.overlay.Goals as goal

pub returns-then-value : goal.returns-then-value
returns-then-value c =
    ap (set c.args.words.now c.args.k)
    (overlaid-set _ _ (omega arith) (omega arith)
    ∙ ap (filled_places (get_or c.args.words.now c.args.k 0) c.args.mask) (sym c.if-value.true))

pub returns-else-value : goal.returns-else-value
returns-else-value c =
    ap (set c.args.words.now c.args.k)
    (overlaid_clear _ _ (omega arith) (omega arith)
    ∙ ap (filled_places (get_or c.args.words.now c.args.k 0) c.args.mask) (sym c.if-value.false))

pub returns-else-k-words : goal.returns-else-k-words
returns-else-k-words c = sym (set_out _ _ _ c.if-k-words.false)
