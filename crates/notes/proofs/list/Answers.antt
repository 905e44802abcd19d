-- The part of the buffer that is put is inside it: the length that `write_list` answers is at most the buffer's.
use Rattle.std.proofs.Common.{refl, sym, arith}
use lib.Seq.{length-take-le}
use Rattle.notes.proofs.Fits.{fits}
use Rattle.notes.proofs.list.Goals as goal

pub slice_bounds-out-end : goal.slice_bounds-out-end
slice_bounds-out-end g c = omega (arith, fits _ _ _ _ _ _ refl c.in-Ok.ensures)

pub slice_bounds-write_all-end-2 : goal.slice_bounds-write_all-end-2
slice_bounds-write_all-end-2 g c = sym (length-take-le _ _ (omega (arith, fits _ _ _ _ _ _ refl c.in-Ok.ensures)))
