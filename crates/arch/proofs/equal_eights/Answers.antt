-- The eights before the first one with another word, all of them where none has one, are eights of x.
use Rattle.std.proofs.Common.{rules}
use borrow.Author.Tests.{tests}
use Rattle.std.proofs.lemmas.Iterator.{YieldsList-from_slice, IsFirst-from_position}
use Rattle.arch.specs.Scans.{Alike}
use Rattle.arch.proofs.Found.{eights_passed}
use Rattle.arch.proofs.equal_eights.Goals as goal

pub returns : goal.returns
returns c =
    rw c.unwrap_or.ensures
    (eights_passed _ _ _ _ _ c.as_chunks.ensures.front c.as_chunks.ensures.front_len
    (IsFirst-from_position _ _ _ (λ eight. Unit {0}) (λ eight. Alike eight c.args.x 0 8) c.position-passed.ensures.ran
    (YieldsList-from_slice _ c.iter.ensures.rest) (λ x q k. tt) (λ x q k. search (rules, tests))))
