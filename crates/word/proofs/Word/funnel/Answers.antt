-- Place j is lo's place j + `down`, or, from `up` on, hi's place j - `up`: the two moved words joined.
use Rattle.std.proofs.Common.{arith}
use Rattle.word.proofs.Words.{funnel_is}
use Rattle.word.proofs.Word.funnel.Goals as goal

pub returns : goal.returns
returns c = funnel_is 64 _ _ _ _ _ _ (omega arith) c.moved_down.ensures c.moved_up.ensures
