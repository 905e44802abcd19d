-- How many digits x has, up to the list's limit: 1 to 10, told by the powers of ten that x lies between.
use mathlib.Core.Path.{sym}
use native.Mathlib.Omega.{arith}
use Rattle.print.proofs.Decimals.{one-digit, digits_are}
use Rattle.print.proofs.digits.Goals as goal

pub returns-then-x-lt10 : goal.returns-then-x-lt10
returns-then-x-lt10 c = sym (one-digit _ c.if-x-lt10.true)

pub returns-else-x-lt10 : goal.returns-else-x-lt10
returns-else-x-lt10 c = sym (digits_are 1 _ c.if-x-lt10.false c.if-x-lt100.true)

pub returns-then-x-lt1000 : goal.returns-then-x-lt1000
returns-then-x-lt1000 c = sym (digits_are 2 _ c.if-x-lt100.false c.if-x-lt1000.true)

pub returns-else-x-lt1000 : goal.returns-else-x-lt1000
returns-else-x-lt1000 c = sym (digits_are 3 _ c.if-x-lt1000.false c.if-x-lt10000.true)

pub returns-then-x-lt100000 : goal.returns-then-x-lt100000
returns-then-x-lt100000 c = sym (digits_are 4 _ c.if-x-lt10000.false c.if-x-lt100000.true)

pub returns-then-x-lt1000000 : goal.returns-then-x-lt1000000
returns-then-x-lt1000000 c = sym (digits_are 5 _ c.if-x-lt100000.false c.if-x-lt1000000.true)

pub returns-else-x-lt1000000 : goal.returns-else-x-lt1000000
returns-else-x-lt1000000 c = sym (digits_are 6 _ c.if-x-lt1000000.false c.if-x-lt10000000.true)

pub returns-then-x-lt100000000 : goal.returns-then-x-lt100000000
returns-then-x-lt100000000 c = sym (digits_are 7 _ c.if-x-lt10000000.false c.if-x-lt100000000.true)

pub returns-else-x-lt100000000 : goal.returns-else-x-lt100000000
returns-else-x-lt100000000 c = sym (digits_are 8 _ c.if-x-lt100000000.false c.if-x-lt1000000000.true)

pub returns : goal.returns
returns c = sym (digits_are 9 _ c.if-x-lt1000000000.false (omega (arith, c.requires)))
