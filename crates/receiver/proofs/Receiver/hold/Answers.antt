-- `Receiver::hold` stores the octet at the count: the array's front is what was held with the octet after it.
use Prim.Native.Nat.{◌<◌}
use native.Mathlib.Omega.{arith}
use lib.ListN.{length}
use Rattle.receiver.proofs.Lengths.{octets_length}
use Rattle.receiver.proofs.Growth.{stored_holds}
use Rattle.receiver.proofs.Receiver.hold.Goals as goal

pub returns : goal.returns
returns c = let a = c in
    let within : a.args.self.count.0 < length a.args.self.octets = omega (arith, octets_length a.args.self _ a.well_formed.0) in
    stored_holds a.args.self a.args.octet within
