-- The eights behind the last one with a word other than 0, all of them where none has one, are eights of 0.
use Rattle.std.proofs.Common.{rules}
use borrow.Author.Tests.{tests}
use Rattle.arch.specs.Scans.{Alike}
use Rattle.arch.proofs.Found.{last_from_rposition, eights_left}
use Rattle.arch.proofs.zero_eights.Goals as goal

pub returns-in-Some : goal.returns-in-Some
returns-in-Some c =
    let f = eights_left _ _ _ _ _ c.as_rchunks.ensures.front_len c.as_rchunks.ensures.back c.as_rchunks.ensures.back_len
    (last_from_rposition _ _ (λ eight. Unit {0}) (λ eight. Alike eight 0 0 8) _ _ _ c.iter.ensures.rest c.iter.ensures.runs_back c.rposition.ensures.bound
    c.rposition.ensures.runs (search rules) (λ x k. tt) (λ x k. search (rules, tests))) in
    rw c.in-Some.is at f

pub returns-in-None : goal.returns-in-None
returns-in-None c =
    let f = eights_left _ _ _ _ _ c.as_rchunks.ensures.front_len c.as_rchunks.ensures.back c.as_rchunks.ensures.back_len
    (last_from_rposition _ _ (λ eight. Unit {0}) (λ eight. Alike eight 0 0 8) _ _ _ c.iter.ensures.rest c.iter.ensures.runs_back c.rposition.ensures.bound
    c.rposition.ensures.runs (search rules) (λ x k. tt) (λ x k. search (rules, tests))) in
    rw c.in-None.is at f
