-- The digits that are left go on from the number that is made.
use Rattle.std.proofs.Common.{◌≡◌}
use lib.ListN.{drop}
use Rattle.listing.specs.Numbers.{number_from}
use Rattle.listing.proofs.number.Given as goal

abbrev pub invariant-loop-byte : goal.invariant-loop-byte
invariant-loop-byte l = number_from l.number (drop l.byte-index l.digits) ≡ number_from 0 l.digits
