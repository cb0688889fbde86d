-- `Receiver::whole` lays the octets held over zeros and stores the last one after them.
use native.Mathlib.Omega.{arith}
use Rattle.receiver.proofs.Lengths.{octets_length}
use Rattle.receiver.proofs.Growth.{whole_stored}
use Rattle.receiver.proofs.Receiver.whole.Goals as goal

pub returns : goal.returns
returns c = rw c.put.ensures
    (whole_stored c.args.self.count.0 c.args.self.octets c.args.octet (omega (arith, octets_length c.args.self _ c.well_formed.0)) c.requires)
