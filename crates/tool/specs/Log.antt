-- What a host can write down of its calls, from their arguments and what they tell it, and from nothing else.
use Rattle.std.specs.Prelude.{ℕ, Bool, cond, List, [], ◌∷◌, eqb}
use Rattle.std.proofs.Math.Option.{Option, none, some}
use Rattle.numbers.specs.Table as table
use Rattle.numbers.specs.Answer.{number_of}
use Rattle.receiver.specs.Receiving.{Reception, awaiting, on_octet, on_gap, on_session_end}
use Rattle.wake.specs.declared.Wake.{Wake}
use Rattle.wake.specs.Clauses.{running, well, with_number, Entry}
use Rattle.wake.specs.Lists.{latest_ended}
use Rattle.tool.specs.declared.Tool.{Tool}
use Rattle.tool.specs.Answers.{is_done}
use Rattle.tool.specs.Parts.{Response}
use Rattle.tool.specs.Requests.{Asking}
use Rattle.tool.specs.Events.{Call, ask, octet_call, gap, session_end, after}
use Rattle.tool.specs.Leaving.{one_of, endings, unmade}

-- What a call tells: 01's number, the wake-up before the frame, and whether the request has ended without a number.
pub record Report : Type 0 where
  pub number : ℕ
  pub wake : Wake
  pub done : Bool

abbrev pub report_of : Response → Report
report_of r = record { number = number_of r.answer; wake = r.wake; done = is_done r.answer }

-- The requests that were accepted, with their wake-ups and endings, the latest first; the latest of them with its arguments; and what has come of the
-- present frame.
pub record Log : Type 0 where
  pub entries : List Entry
  pub latest : Option Asking
  pub reception : Reception

abbrev pub fresh_log : Log
fresh_log = record { entries = []; latest = none; reception = awaiting }

-- a request that is not refused is entered with the wake-up told; one that is done once sent has ended
abbrev pub entry_of : Asking → Report → Entry
entry_of q r = record { request = q.request; station = q.ads; wake = r.wake; ending = cond r.done well running }

unfoldable pub asking_logged : Asking → Report → Log → Log
asking_logged q r l =
    cond (eqb r.number table.none)
    (record { entries = entry_of q r ∷ l.entries; latest = some q; reception = l.reception })
    l

-- an event ends the running request, which is the latest, without a number, or with one of 13, 14, 15, 19, 20
abbrev pub ending_noted : Report → List Entry → List Entry
ending_noted r past =
    cond r.done (latest_ended well past)
    (cond (one_of r.number endings) (latest_ended (with_number r.number) past) past)

-- an event, which makes this of the present frame (01, Receiving)
unfoldable pub event_logged : Reception → Report → Log → Log
event_logged next r l =
    cond (unmade r.number) l
    (record { entries = ending_noted r l.entries; latest = l.latest; reception = next })

unfoldable pub logged : Call → Report → Log → Log
logged (ask q buffer_length) r l = asking_logged q r l
logged (octet_call o buffer_length) r l = event_logged (on_octet o l.reception).next r l
logged gap r l = event_logged (on_gap l.reception).next r l
logged session_end r l = event_logged (on_session_end l.reception).next r l

-- the tool that calls leave, each given the tool that the last one gave back
unfoldable pub left_after : Tool → List Call → Tool
left_after t [] = t
left_after t (x ∷ xs) = left_after (after t x).tool xs

-- the log after calls
unfoldable pub log_after : Tool → List Call → Log → Log
log_after t [] l = l
log_after t (x ∷ xs) l = log_after (after t x).tool xs (logged x (report_of (after t x)) l)
