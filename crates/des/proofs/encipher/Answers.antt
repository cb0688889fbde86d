-- `encipher` meets its contract: it is the computation with the round keys in its own order.
-- Assumes nothing.
use Rattle.des.specs.Des.{encipher}
use Rattle.des.proofs.encipher.Goals as goal

pub returns : goal.returns
unfolding encipher
returns c = c.computation.ensures
