-- Which octets of card memory a refusal leaves as they were, number by number (01, Numbers handed back, "what stays").
use Rattle.std.specs.Prelude.{ℕ, cond, ◌||◌, ◌⊎◌, ◌≡◌, eqb, leb}
use Rattle.numbers.specs.Table.{impossible_length, broken_rule, wrong_length}
use Rattle.card.specs.Events.{Call, octet_call, gap, session_end, meter_write}
use Rattle.card_memory.specs.Leaving.{OutsideReceiver, OutsideState}

-- "A call refused with 12 or 17 counts as not made." (00, demand 3)
abbrev pub Unmade : ℕ → Type 0
Unmade n = (n ≡ broken_rule) ⊎ (n ≡ wrong_length)

-- what a refusal may alter: nothing, the receiver, or the receiver and the mark of the wait
pub data Alters : Type 0 where
  nothing : Alters
  receiver : Alters
  state : Alters

-- 12 and 17: "everything" stays. 1 to 5: "frame dropped; all else kept". 7 to 11 and 13: "records, lent buffers", and "on the bus any wait is over"
abbrev pub bus_alters : ℕ → Alters
bus_alters n = cond (eqb n broken_rule || eqb n wrong_length) nothing (cond (leb n impossible_length) receiver state)

-- a meter write is not on the bus: it has no frame, and ends no wait
abbrev pub alters : Call → ℕ → Alters
alters (octet_call o loan) n = bus_alters n
alters gap n = bus_alters n
alters session_end n = bus_alters n
alters (meter_write t d) n = nothing

abbrev pub Outside : Alters → ℕ → Type 0
Outside nothing j = Unit {0}
Outside receiver j = OutsideReceiver j
Outside state j = OutsideState j

-- the offsets whose octets stay where this call is refused with this number
abbrev pub StaysAt : Call → ℕ → ℕ → Type 0
StaysAt k n j = Outside (alters k n) j
