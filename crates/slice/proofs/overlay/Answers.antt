-- Word k has x's bits at the mask's places and its own at the others; no other word changes.
use mathlib.Core.Path.{ap}
use native.Mathlib.Omega.{arith}
use lib.ListN.{set}
use Rattle.slice.proofs.Stricts.{overlay_is}
use Rattle.slice.proofs.overlay.Goals as goal

pub returns : goal.returns
returns c = ap (set c.args.words.now c.args.k) (overlay_is _ _ _ (search arith) (omega arith) (omega arith))
