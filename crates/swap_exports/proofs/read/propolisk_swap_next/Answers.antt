-- `propolisk_swap_next`: what stands at the cursor, in the cells.
use Rattle.swap_exports.proofs.Outcomes.{shown_same}
use Rattle.swap_exports.proofs.read.propolisk_swap_next.Goals as goal

pub returns : goal.returns
returns c = shown_same _ _ _ _ _ c.show.ensures c.next-next.ensures
