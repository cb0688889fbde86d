-- `acceptable` runs the tests of its definition in their order.
use borrow.Author.Tests.{lt-ltb, le-ltb}
use Rattle.records.specs.Judging.{acceptable}
use Rattle.records.proofs.Attributes.acceptable.Goals as goal

pub returns-then-over_long : goal.returns-then-over_long
unfolding acceptable
returns-then-over_long c = rw (← c.over_long.ensures, c.if-over_long.true)

pub returns-in_default : goal.returns-in_default
unfolding acceptable
returns-in_default c = rw (← c.over_long.ensures, c.if-over_long.false, c.in_default.is)

pub returns-in_default-measure : goal.returns-in_default-measure
unfolding acceptable
returns-in_default-measure c = rw (← c.over_long.ensures, c.if-over_long.false, c.in-Label.is, ← c.in_default-measure.ensures)

pub returns-then-limit-characters : goal.returns-then-limit-characters
unfolding acceptable
returns-then-limit-characters c =
    rw (← c.over_long.ensures, c.if-over_long.false, c.in-Label.is, ← c.in-Ok.ensures, lt-ltb _ _ c.if-limit-characters.true)

pub returns : goal.returns
unfolding acceptable
returns c =
    rw (← c.over_long.ensures, c.if-over_long.false, c.in-Label.is, ← c.in-Ok.ensures, le-ltb _ _ c.if-limit-characters.false)
