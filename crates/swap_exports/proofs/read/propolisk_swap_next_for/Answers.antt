-- `propolisk_swap_next_for`: the station's next record, in the cells.
use Rattle.swap_exports.proofs.Outcomes.{shown_same}
use Rattle.swap_exports.proofs.read.propolisk_swap_next_for.Goals as goal

pub returns : goal.returns
returns c = shown_same _ _ _ _ _ c.show.ensures c.next_for-next.ensures
