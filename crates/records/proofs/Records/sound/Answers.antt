-- `sound` tests the rules and then the contents.
use Rattle.records.specs.Setup.{sound}
use Rattle.records.proofs.Refusals.{accepted_number}
use Rattle.records.proofs.Records.sound.Goals as goal

pub returns-then-keeps_rules : goal.returns-then-keeps_rules
unfolding sound
returns-then-keeps_rules c = rw (← c.keeps_rules.ensures, c.if-keeps_rules.true, ← c.contents_answers.ensures, c.is_ok.ensures.value) (accepted_number _)

pub returns-else-keeps_rules : goal.returns-else-keeps_rules
unfolding sound
returns-else-keeps_rules c = rw (← c.keeps_rules.ensures, c.if-keeps_rules.false)
