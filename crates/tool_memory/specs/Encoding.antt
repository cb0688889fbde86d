-- The memory that holds a tool, from the memory before: what is free stays as it was.
use Rattle.std.specs.Prelude.{ℕ, List, [], ◌∷◌, get_or}
use Rattle.receiver_memory.specs.Receiver as receiver_memory
use Rattle.receiver_memory.specs.Puts.{Put, put, put_all}
use Rattle.tool.specs.declared.Tool.{Tool}
use Rattle.tool_memory.specs.Layout.{mark_at, tab_at, length_at, ads_at, adp_at, key_at, na1_at, sent_at, station_at, successes_at, receiver_at}
use Rattle.tool_memory.specs.Marks.{mark_of, tab_of, sent_length_of}

-- the mark of the request with its TAB and its length
abbrev pub mark_puts : Tool → List ℕ → List Put
mark_puts t m =
    put mark_at (mark_of t.phase ∷ [])
    ∷ put tab_at (tab_of t.phase (get_or m tab_at 0) ∷ [])
    ∷ put length_at (sent_length_of t.phase (get_or m length_at 0) ∷ [])
    ∷ []

-- the station and the ADP that the request goes to
abbrev pub request_puts : Tool → List Put
request_puts t = put ads_at t.ads ∷ put adp_at (t.adp ∷ []) ∷ []

-- what a programming request keeps for its replies
abbrev pub programming_puts : Tool → List Put
programming_puts t = put key_at t.key ∷ put na1_at t.na1 ∷ put sent_at t.sent ∷ []

-- the wake-up memory
abbrev pub waking_puts : Tool → List Put
waking_puts t = put station_at t.waking.station ∷ put successes_at (t.waking.successes.0 ∷ []) ∷ []

abbrev pub receiver_puts : Tool → List Put
receiver_puts t = put receiver_at (receiver_memory.image t.receiver) ∷ []

unfoldable pub encoded : Tool → List ℕ → List ℕ
encoded t m =
    put_all (receiver_puts t) (put_all (waking_puts t) (put_all (programming_puts t) (put_all (request_puts t) (put_all (mark_puts t m) m))))
