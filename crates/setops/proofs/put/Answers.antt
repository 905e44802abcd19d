-- The words become the operation's of those in use and the other's: zeros up to `end`, then the zip, and what falls out of use becomes 0.
use native.Mathlib.Omega.{arith}
use Rattle.storage.proofs.Combined.{zeroed-put}
use Rattle.setops.proofs.Combine.{zip_put, end_holds}
use Rattle.setops.proofs.put.Goals as goal

pub returns : goal.returns
returns c =
    zeroed-put _ _ _ _ _ _ (end_holds _ _ _ _ _ c.requires.0 c.requires.2)
    (zip_put _ _ _ _ _ _ _ _ (λ k. omega (arith, c.slice_known-1.given k)) c.requires.0 (omega (arith, c.requires.2))
    c.zero_words.ensures c.min.ensures c.zip_words.ensures) c.zero_words-2.ensures
