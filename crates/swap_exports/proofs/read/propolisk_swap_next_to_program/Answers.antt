-- `propolisk_swap_next_to_program`: the station's next record to program, in the cells.
use Rattle.swap_exports.proofs.Outcomes.{shown_same}
use Rattle.swap_exports.proofs.read.propolisk_swap_next_to_program.Goals as goal

pub returns : goal.returns
returns c = shown_same _ _ _ _ _ c.show.ensures c.next_to_program-next.ensures
