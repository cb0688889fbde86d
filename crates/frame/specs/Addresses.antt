-- The broadcast address.
use Rattle.std.specs.Prelude.{ℕ, Bool, List, replicate}
use Rattle.octets.specs.Part.{same}
use Rattle.frame.specs.Sizes.{address_width}

-- 004 4.4.8: "There is only one broadcast physical address which is the general broadcast ADG coded as 000000000000"
unfoldable pub broadcast : List ℕ → Bool
broadcast address = same address (replicate address_width 0)
