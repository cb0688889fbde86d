-- `Exchange::opened` lays the data over the front of the octets that wait.
use Prim.Native.Nat.{◌≤◌}
use lib.ListN.{length}
use native.Mathlib.Omega.{arith}
use Rattle.octets.proofs.Splice.{spliced_front}
use Rattle.card.proofs.Amounts.{rec_data}
use Rattle.card.proofs.Shape.{content_length}
use Rattle.card.proofs.Exchange.opened.Goals as goal

pub returns : goal.returns
returns c =
    let fits : length c.args.«data».now ≤ length c.args.self.content = omega (arith, rec_data _ c.requires, content_length c.args.self _ c.well_formed.0) in
    rw (c.put.ensures, spliced_front c.args.self.content c.args.«data».now fits)
