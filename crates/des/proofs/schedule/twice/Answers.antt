-- `schedule::twice` meets its contract: the half stands before itself.
-- Assumes nothing.
use Rattle.des.proofs.Held.{joined}
use Rattle.des.proofs.schedule.twice.Goals as goal

pub returns : goal.returns
returns c = λ b h. joined h h
