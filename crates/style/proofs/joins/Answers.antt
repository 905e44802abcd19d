-- Whether a byte may join: false below 33, above 126 and for a comma, else by whether it is below 48 or above 57.
use borrow.Author.Tests.{le-leb, lt-leb, eq-eqb, ne_eqb, lt-ltb, le-ltb}
use Rattle.style.proofs.joins.Goals as goal

pub returns-then-c-lt33 : goal.returns-then-c-lt33
returns-then-c-lt33 c = rw (lt-leb 33 c.args.c c.if-c-lt33.true)

pub returns-then-c-gt126 : goal.returns-then-c-gt126
returns-then-c-gt126 c = rw (le-leb 33 c.args.c c.if-c-lt33.false, lt-leb c.args.c 126 c.if-c-gt126.true)

pub returns-then-c-eq44 : goal.returns-then-c-eq44
returns-then-c-eq44 c =
    rw (
      le-leb 33 c.args.c c.if-c-lt33.false,
      le-leb c.args.c 126 c.if-c-gt126.false,
      eq-eqb c.args.c 44 c.if-c-eq44.true,
    )

pub returns-then-c-lt48 : goal.returns-then-c-lt48
returns-then-c-lt48 c =
    rw (
      le-leb 33 c.args.c c.if-c-lt33.false,
      le-leb c.args.c 126 c.if-c-gt126.false,
      ne_eqb c.args.c 44 c.if-c-eq44.false,
      lt-ltb c.args.c 48 c.if-c-lt48.true,
    )

pub returns-else-c-lt48 : goal.returns-else-c-lt48
returns-else-c-lt48 c =
    rw (
      le-leb 33 c.args.c c.if-c-lt33.false,
      le-leb c.args.c 126 c.if-c-gt126.false,
      ne_eqb c.args.c 44 c.if-c-eq44.false,
      le-ltb c.args.c 48 c.if-c-lt48.false,
    )
