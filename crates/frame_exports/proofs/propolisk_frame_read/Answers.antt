-- `frame_exports::propolisk_frame_read` meets its contract: a refusal leaves all, and a good frame's fields are those that `frame::read` gives.
use Rattle.frame_exports.proofs.Outcomes.{read_bad, read_good}
use Rattle.frame_exports.proofs.propolisk_frame_read.Goals as goal

pub returns-in-Err : goal.returns-in-Err
returns-in-Err c = read_bad _ _ c.read.ensures _ _ _ c.in-Err.is c.number.ensures

pub returns-in-Ok : goal.returns-in-Ok
returns-in-Ok c = read_good _ _ c.read.ensures _ _ c.in-Ok.is _ _ _ c.from.ensures c.data_of-content.ensures c.put.ensures
