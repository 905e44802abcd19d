-- 10 for a cut record, or what a record gets, then 11, else done. Loop: the store has what i records made, zeros past the count, and the records left decide.
use Rattle.reader.proofs.Records.{ReadingTo}
use Rattle.reader.proofs.each_record.Given as goal

abbrev pub invariant-loop-i : goal.invariant-loop-i
invariant-loop-i l = ReadingTo l.edition l.sheet l.n l.initial.words l.old l.words l.count l.i l.at
