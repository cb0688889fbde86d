-- `permuted_input` meets its contract: it is IP of the block's bits.
-- Assumes nothing.
use Rattle.des.proofs.permuted_input.Goals as goal

pub returns : goal.returns
returns c = rw c.word.ensures.same at c.initial.ensures
