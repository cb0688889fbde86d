-- What is behind the octets that are lent stays.
use Rattle.memory_history.specs.Claim.{lent_outcome}
use Rattle.memory_history.proofs.Lending.{all_lent}
use Rattle.memory_history.proofs.after_lent.Goals as goal

pub returns : goal.returns
unfolding lent_outcome
returns c = let lent = all_lent c.args.memory.now c.args.room c.min-lent.result c.min-lent.ensures in rw (c.after.ensures, lent.0, lent.1)
