-- The wake-up rule as a small memory keeps it. `Clauses` has the rule in the words of 01, over the list of all requests.
use Rattle.std.specs.Prelude.{ℕ, ◌+◌, Bool, true, false, cond, ◌&&◌, List, replicate, ltb}
use Rattle.octets.specs.Part.{same}
use Rattle.wake.specs.declared.Request.{Request}
use Rattle.wake.specs.declared.Wake.{Wake}
use Rattle.wake.specs.declared.Wake.TheVariants.{None, Agn}
use Rattle.wake.specs.declared.Last.{Last}
use Rattle.wake.specs.declared.Last.TheVariants.{EnqTrf, Other}
use Rattle.wake.specs.declared.Exchanges.{Exchanges}
use Rattle.wake.specs.declared.WakeUps.{WakeUps}
use Rattle.wake.specs.Clauses.{enq_or_trf, most_exchanges}

abbrev pub exchanges : ℕ → Exchanges
exchanges n = record { 0 = n }

-- 01, Frames: "ADS 6"
abbrev pub station_width : ℕ
station_width = 6

-- no request yet; the station is free
abbrev pub fresh : WakeUps
fresh = record { station = replicate station_width 0; successes = exchanges 0 }

-- a request as the last one
abbrev pub last_after : Request → Last
last_after r = cond (enq_or_trf r) EnqTrf Other

abbrev pub last_enq_trf : Last → Bool
last_enq_trf EnqTrf = true
last_enq_trf Other = false

-- an ENQ or TRF to the station s needs no wake-up: the last request was an ENQ or TRF, it went to s, and fewer than five have succeeded
unfoldable pub awake : Last → WakeUps → List ℕ → Bool
awake last w s = last_enq_trf last && (same s w.station && ltb w.successes.0 most_exchanges)

unfoldable pub wake_before : Last → WakeUps → Request → List ℕ → Wake
wake_before last w r s = cond (enq_or_trf r && awake last w s) None Agn

-- after an ENQ or TRF to the station s: a wake-up starts the count anew
abbrev pub calling : Last → WakeUps → List ℕ → WakeUps
calling last w s = record { station = s; successes = cond (awake last w s) w.successes (exchanges 0) }

-- after another request
abbrev pub otherwise : WakeUps → WakeUps
otherwise w = record { station = w.station; successes = exchanges 0 }

unfoldable pub asked : Last → WakeUps → Request → List ℕ → WakeUps
asked last w r s = cond (enq_or_trf r) (calling last w s) (otherwise w)

abbrev pub with_successes : ℕ → WakeUps → WakeUps
with_successes n w = record { station = w.station; successes = exchanges n }

-- after the last request has ended without a number: an ENQ or TRF is counted, up to five
unfoldable pub succeeded : Last → WakeUps → WakeUps
succeeded last w = cond (last_enq_trf last && ltb w.successes.0 most_exchanges) (with_successes (w.successes.0 + 1) w) w
