-- The wake-up rule in the words of 01, The tool, over the list of all requests. Nothing here speaks of how a tool remembers them.
use Rattle.std.specs.Prelude.{ℕ, zero, suc, ◌≡◌, Bool, true, false, cond, not, ◌&&◌, ◌||◌, List, [], ◌∷◌, leb}
use Rattle.octets.specs.Part.{same}
use Rattle.wake.specs.declared.Request.{Request}
use Rattle.wake.specs.declared.Request.TheVariants.{Enq, Trf, Rec, Trb, Ib}
use Rattle.wake.specs.declared.Wake.{Wake}
use Rattle.wake.specs.declared.Wake.TheVariants.{None, Agn}

-- How a request has ended: not yet, without a number, or with one.
pub data Ending : Type 0 where
  running : Ending
  well : Ending
  with_number : ℕ → Ending

-- A request with what became of it: the station it went to, the wake-up that came before it, and how it has ended. Lists of entries have the latest first.
pub record Entry : Type 0 where
  pub request : Request
  pub station : List ℕ
  pub wake : Wake
  pub ending : Ending

abbrev pub enq_or_trf : Request → Bool
enq_or_trf Enq = true
enq_or_trf Trf = true
enq_or_trf Rec = false
enq_or_trf Trb = false
enq_or_trf Ib = false

-- "An exchange succeeds if it ends without a number; a failed one isn't counted."
abbrev pub succeeds : Ending → Bool
succeeds running = false
succeeds well = true
succeeds (with_number n) = false

abbrev pub is_wake_up : Wake → Bool
is_wake_up None = false
is_wake_up Agn = true

-- the ENQ and TRF among the requests
unfoldable pub enqs_and_trfs : List Entry → List Entry
enqs_and_trfs [] = []
enqs_and_trfs (e ∷ past) = cond (enq_or_trf e.request) (e ∷ enqs_and_trfs past) (enqs_and_trfs past)

-- "the first ENQ or TRF": there are none before
unfoldable pub first : List Entry → Bool
first [] = true
first (e ∷ before) = false

-- "an ENQ or TRF to another station than the last ENQ or TRF"
unfoldable pub elsewhere : List Entry → List ℕ → Bool
elsewhere [] s = false
elsewhere (e ∷ before) s = not (same s e.station)

-- "or after a REC, TRB or IB"
unfoldable pub after_other : List Entry → Bool
after_other [] = false
after_other (e ∷ past) = not (enq_or_trf e.request)

-- the requests since the last wake-up: back to the one that it came before
unfoldable pub since_wake_up : List Entry → List Entry
since_wake_up [] = []
since_wake_up (e ∷ past) = e ∷ cond (is_wake_up e.wake) [] (since_wake_up past)

unfoldable pub counted : Entry → List ℕ → Bool
counted e s = enq_or_trf e.request && (same s e.station && succeeds e.ending)

-- how many ENQ and TRF to the station s have succeeded
unfoldable pub successes : List Entry → List ℕ → ℕ
successes [] s = zero
successes (e ∷ past) s = cond (counted e s) (suc (successes past s)) (successes past s)

abbrev pub most_exchanges : ℕ
most_exchanges = 5

-- "an ENQ or TRF when five to this station have succeeded since the last wake-up"
abbrev pub five_succeeded : List Entry → List ℕ → Bool
five_succeeded past s = leb most_exchanges (successes (since_wake_up past) s)

-- "AGN wake-up comes before: the first ENQ or TRF; an ENQ or TRF to another station than the last ENQ or TRF, or after a REC, TRB or IB ..; an ENQ
-- or TRF when five to this station have succeeded since the last wake-up; any REC, TRB or IB. At no other time."
unfoldable pub due : List Entry → Request → List ℕ → Wake
due past r s =
    cond (enq_or_trf r)
    (cond (first (enqs_and_trfs past) || (elsewhere (enqs_and_trfs past) s || (after_other past || five_succeeded past s))) Agn None)
    Agn

-- the wake-up before each request is the one that the clauses say, read off the requests before it
unfoldable pub Rightly : List Entry → Type 0
Rightly [] = Unit {0}
Rightly (e ∷ past) = (e.wake ≡ due past e.request e.station) × Rightly past
