-- What owning a receiver tells of its array.
use mathlib.Core.Path.{◌≡◌}
use mathlib.Core.List.{List}
use lib.ListN.{length}
use mir.Val.{Val}
use denote.Shadow.{shadow}
use Rattle.receiver.specs.declared.Receiver.{Receiver}
use Rattle.receiver.specs.Receiver.{most_held}
use Rattle.receiver.specs.contracts.Receiver as row

pub octets_length : (r : Receiver) (vs : List Val) → shadow ((row.the_row).own_val r vs) → length r.octets ≡ most_held
octets_length r vs g = g.1.1.1.1.0.1.0.1
