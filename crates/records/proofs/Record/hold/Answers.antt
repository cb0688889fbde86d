-- `hold` replaces the length and the front of the storage.
use Prim.Native.Nat.{◌≤◌}
use native.Mathlib.Omega.{arith}
use lib.ListN.{length}
use Rattle.octets.proofs.Splice.{spliced_front}
use Rattle.records.proofs.Shape.{storage_length}
use Rattle.records.proofs.Record.hold.Goals as goal

pub returns : goal.returns
returns c =
    let fits : length c.args.«data».now ≤ length c.args.self.storage = omega (arith, storage_length c.args.self _ c.well_formed.0) in
    rw (c.put.ensures, spliced_front c.args.self.storage c.args.«data».now fits)
