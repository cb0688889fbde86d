-- `rounds::windows` meets its contract: antt tests each bit.
-- Assumes nothing.
use Rattle.des.proofs.Exchanges.{is_wrapped}
use Rattle.des.proofs.rounds.windows.Goals as goal

pub returns : goal.returns
returns c = is_wrapped c.args.r c.requires
