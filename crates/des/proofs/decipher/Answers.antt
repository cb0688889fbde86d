-- `decipher` meets its contract: it is the computation with the round keys in its own order.
-- Assumes nothing.
use Rattle.des.specs.Des.{decipher}
use Rattle.des.proofs.decipher.Goals as goal

pub returns : goal.returns
unfolding decipher
returns c = c.computation.ensures
