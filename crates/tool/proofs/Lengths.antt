-- What owning a tool tells of its arrays.
use mathlib.Core.Path.{◌≡◌}
use mathlib.Core.List.{List}
use lib.ListN.{length}
use mir.Val.{Val}
use denote.Shadow.{shadow}
use Rattle.receiver.specs.Receiver.{most_held}
use Rattle.receiver.proofs.Lengths.{octets_length}
use Rattle.tool.specs.declared.Tool.{Tool}
use Rattle.frame.specs.Sizes.{most_transferred}
use Rattle.tool.specs.contracts.Tool as row

module _ (t : Tool) (vs : List Val) (g : shadow ((row.the_row).own_val t vs)) where
  pub sent_length : length t.sent ≡ most_transferred
  sent_length = g.1.1.1.1.1.1.1.0.1.0.1

  pub receiver_length : length t.receiver.octets ≡ most_held
  receiver_length = octets_length t.receiver _ g.1.1.1.1.1.1.1.1.1.0
