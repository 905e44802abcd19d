-- 6 where m words have no space, then the operation's words in the first m; words out of use become 0.
use native.Mathlib.Omega.{arith}
use Rattle.combine.proofs.Froms.{written}
use Rattle.storage.proofs.Combined.{put_lacks}
use Rattle.combine.proofs.put.Goals as goal

pub returns-then-m-words : goal.returns-then-m-words
returns-then-m-words c = put_lacks _ _ _ _ c.if-m-words.true

pub returns : goal.returns
returns c =
    written _ _ _ _ _ _ _ _ _ _ (λ k. (c.type_inv.left k).fits) (λ k. (c.type_inv.right k).fits) c.requires.holds c.requires.within
    (omega (arith, c.if-m-words.false)) (omega arith) c.zip_words.ensures c.copy_tail.ensures c.zero_words.ensures
