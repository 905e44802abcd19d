-- What is wrong with a whole sheet: 9 without a head, else what `records_fault` says of as many records as the head counts.
use mathlib.Core.Path.{ap}
use mathlib.Core.Bool.{not}
use Rattle.frames.proofs.Heads.{head_long, told_no, told_yes}
use Rattle.frames.proofs.Walks.{gets_9, header_good}
use Rattle.frames.proofs.fault.Goals as goal

pub returns-then-not-has_head : goal.returns-then-not-has_head
returns-then-not-has_head c = gets_9 _ (told_no c.args.sheet.now _ c.has_head.ensures (ap not c.if-not-has_head.true))

pub records_fault-requires : goal.records_fault-requires
records_fault-requires c = let s = c.args.sheet.now in head_long s (told_yes s _ c.has_head.ensures (ap not c.if-not-has_head.false))

pub returns : goal.returns
returns c =
    header_good _ _ _ (told_yes c.args.sheet.now _ c.has_head.ensures (ap not c.if-not-has_head.false)) c.record_count.ensures
    c.records_fault.ensures
