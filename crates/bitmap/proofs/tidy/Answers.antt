-- n where word k is not the last, then n where it is not 0, else the length of the n words without trailing zeros.
use native.Mathlib.Omega.{arith}
use Rattle.bitmap.proofs.Tidies.{tidy_stays, tidy_full, tidy_trims}
use Rattle.bitmap.proofs.tidy.Goals as goal

pub returns-then-k-n : goal.returns-then-k-n
returns-then-k-n c = tidy_stays _ _ _ c.if-k-n.true

pub returns-then-words-k-ne0 : goal.returns-then-words-k-ne0
returns-then-words-k-ne0 c = tidy_full _ _ _ c.if-words-k-ne0.true

pub returns : goal.returns
returns c = tidy_trims _ _ _ _ (omega arith) (omega arith) c.if-words-k-ne0.false c.nonzero_len.ensures
