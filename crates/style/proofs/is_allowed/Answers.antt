-- Whether a style is allowed: false past the first number's limit and for another joiner, else by the shortest run.
use mathlib.Core.Path.{sym, ◌∙◌}
use borrow.Author.Tests.{le-leb, lt-leb}
use Rattle.style.proofs.is_allowed.Goals as goal

pub returns-then-s-gt1000 : goal.returns-then-s-gt1000
returns-then-s-gt1000 c = rw (lt-leb c.args.s.first 1_000 c.if-s-gt1000.true)

pub returns-then-not-joins : goal.returns-then-not-joins
returns-then-not-joins c = rw (le-leb c.args.s.first 1_000 c.if-s-gt1000.false, sym c.joins.ensures ∙ c.if-not-joins.true)

pub returns-then-s-ge2 : goal.returns-then-s-ge2
returns-then-s-ge2 c =
    rw (
      le-leb c.args.s.first 1_000 c.if-s-gt1000.false,
      sym c.joins.ensures ∙ c.if-not-joins.false,
      le-leb 2 c.args.s.shortest c.if-s-ge2.true,
    )

pub returns-else-s-ge2 : goal.returns-else-s-ge2
returns-else-s-ge2 c =
    rw (
      le-leb c.args.s.first 1_000 c.if-s-gt1000.false,
      sym c.joins.ensures ∙ c.if-not-joins.false,
      lt-leb 2 c.args.s.shortest c.if-s-ge2.false,
    )
