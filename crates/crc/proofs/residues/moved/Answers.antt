-- `crc::residues::moved` meets its contract.
-- Assumes nothing.
use mathlib.Core.Path.{ap}
use Rattle.computed.specs.Steps.{value}
use Rattle.computed.specs.Steps.{right, sum}
use Rattle.crc.proofs.residues.moved.Goals as goal

pub returns : goal.returns
returns c = ap (value (sum (right c.args.j) (right c.args.k))) c.folded-low.ensures
