-- A tool whose arrays are as long as their types say: a fresh one is.
use mathlib.Core.Path.{◌≡◌, refl}
use lib.ListN.{length}
use Rattle.receiver_memory.specs.Receiver.{most_held}
use Rattle.tool.specs.declared.Tool.{Tool}
use Rattle.frame.specs.Sizes.{address_width, number_width, most_transferred}
use Rattle.tool.specs.Parts.{fresh}

pub record Shaped (t : Tool) : Type 0 where
  pub ads : length t.ads ≡ address_width
  pub key : length t.key ≡ number_width
  pub na1 : length t.na1 ≡ number_width
  pub sent : length t.sent ≡ most_transferred
  pub station : length t.waking.station ≡ address_width
  pub octets : length t.receiver.octets ≡ most_held

pub fresh_shaped : Shaped fresh
fresh_shaped = record { ads = refl; key = refl; na1 = refl; sent = refl; station = refl; octets = refl }
