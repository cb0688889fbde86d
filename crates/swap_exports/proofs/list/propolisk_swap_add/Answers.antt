-- `propolisk_swap_add`: the list's answer in three cells.
use Rattle.swap_exports.proofs.Outcomes.{added_kept, added_fault}
use Rattle.swap_exports.proofs.list.propolisk_swap_add.Goals as goal

pub returns-in-Ok : goal.returns-in-Ok
returns-in-Ok c = added_kept _ _ _ _ _ _ _ c.add_with_octet.ensures _ c.in-Ok.is

pub returns-in-Err : goal.returns-in-Err
returns-in-Err c = added_fault _ _ _ _ _ _ _ c.add_with_octet.ensures _ c.in-Err.is
