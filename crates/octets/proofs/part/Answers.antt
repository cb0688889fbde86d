-- `octets::part` meets its contract: each case of `get` is a case of `part_of`.
use mathlib.Core.Path.{refl}
use Rattle.octets.proofs.Parts.{part_got}
use Rattle.octets.proofs.part.Goals as goal

pub returns : goal.returns
returns c = rw c.unwrap_or.ensures (part_got _ _ _ _ _ refl c.get.ensures.lookup)
