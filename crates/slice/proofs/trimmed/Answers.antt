-- The front part of the words, up to the last that is not 0.
use mathlib.Core.Path.{sym, subst}
use Prim.Native.Nat.{ℕ, ◌≤◌}
use lib.Seq.{length-take-le}
use lib.ListN.{length}
use Rattle.arch.proofs.Scans.{nonzero_le}
use Rattle.slice.proofs.Equals.{front_is}
use Rattle.slice.proofs.trimmed.Goals as goal

pub slice_bounds-result-end : goal.slice_bounds-result-end
slice_bounds-result-end c = sym (length-take-le _ _ (subst (λ (m : ℕ). m ≤ length c.args.words.now) (sym c.nonzero_len-n.ensures) (nonzero_le _)))

pub returns : goal.returns
returns c = front_is _ _ c.nonzero_len-n.ensures
