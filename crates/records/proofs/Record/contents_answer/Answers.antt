-- `contents_answer` tests the length that the record states, and then its contents as data.
use Rattle.records.specs.Judging.{contents_answer}
use Rattle.records.proofs.Record.contents_answer.Goals as goal

pub returns-then-over_long : goal.returns-then-over_long
unfolding contents_answer
returns-then-over_long c = rw (← c.over_long.ensures, c.if-over_long.true)

pub returns : goal.returns
unfolding contents_answer
returns c = rw (← c.over_long.ensures, c.if-over_long.false, c.acceptable.ensures, c.contents.ensures)
