-- `value_at` meets its contract: a carried field is turned over zeros; any other reads as zeros.
use Rattle.frame.specs.Content.{value_at}
use Rattle.frame.proofs.OneField.{value_elsewhere}
use Rattle.frame.proofs.content.value_at.Goals as goal

pub returns-in-Carried : goal.returns-in-Carried
unfolding value_at
returns-in-Carried g c = rw (c.in-Carried.is, c.put_reversed.ensures, c.part.ensures)

pub returns-in_default : goal.returns-in_default
returns-in_default g c = rw (value_elsewhere _ _ _ _ c.in_default.not-Carried)
