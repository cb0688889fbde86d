-- `schedule::key_halves` meets its contract: it is permuted choice 1 of the key's bits.
-- Assumes nothing.
use Rattle.des.specs.Des.{key_halves}
use Rattle.des.proofs.schedule.key_halves.Goals as goal

pub returns : goal.returns
unfolding key_halves
returns c = rw c.word.ensures.same at c.choice_1.ensures
