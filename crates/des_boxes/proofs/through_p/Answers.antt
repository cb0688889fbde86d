-- `through_p` meets its contract: the sum of what the tables hold.
-- Assumes nothing.
use mathlib.Core.Path.{ap}
use lib.Bits.{bit_xor}
use Rattle.computed.proofs.Entries.{unshifted}
use Rattle.des_boxes.specs.Boxes.{box8, through_p}
use Rattle.des_boxes.proofs.through_p.Goals as goal

pub returns : goal.returns
returns c = ap (bit_xor (through_p 7 c.args.odd c.args.even)) (unshifted box8 64 c.args.even)
