-- Entries of the list of all requests, as requests are sent and end.
use Rattle.std.specs.Prelude.{ℕ, List, [], ◌∷◌}
use Rattle.wake.specs.declared.Request.{Request}
use Rattle.wake.specs.declared.Wake.{Wake}
use Rattle.wake.specs.Clauses.{Ending, running, Entry}

-- a request that was sent, and has not ended yet
abbrev pub sent : Request → List ℕ → Wake → Entry
sent r s w = record { request = r; station = s; wake = w; ending = running }

abbrev pub ended_as : Ending → Entry → Entry
ended_as n e = record { request = e.request; station = e.station; wake = e.wake; ending = n }

-- the latest request has ended so
abbrev pub latest_ended : Ending → List Entry → List Entry
latest_ended n [] = []
latest_ended n (e ∷ past) = ended_as n e ∷ past
