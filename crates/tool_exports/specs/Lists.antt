-- Exported calls one after the other on tool memory, and the host's log of them, written from each call's arguments and its own results.
use Rattle.std.specs.Prelude.{ℕ, cond, ◌&&◌, List, [], ◌∷◌, eqb, length}
use Rattle.numbers.specs.Answer.{number_of}
use Rattle.numbers.specs.Table.{none}
use Rattle.wake.specs.declared.Wake.{Wake}
use Rattle.wake.specs.declared.Wake.TheVariants.{None, Agn}
use Rattle.tool.specs.Requests.{Asking}
use Rattle.tool.specs.Events.{Call, after}
use Rattle.tool.specs.Events as call
use Rattle.tool.specs.Log.{Report, Log, logged}
use Rattle.tool_memory.specs.Decoding.{decoded}
use Rattle.tool_exports.specs.Outcomes.{stored, RequestLoan, OctetLoan, request_outcome, octet_outcome, event_outcome}

-- an exported call with its arguments and what is lent with it besides the memory
pub data Export : Type 0 where
  request : Asking → RequestLoan → Export
  octet : ℕ → OctetLoan → Export
  gap : Export
  session_end : Export

-- the call on the tool by value
abbrev pub call_of : Export → Call
call_of (request q lent) = call.ask q (length lent.frame)
call_of (octet o lent) = call.octet_call o (length lent.frame)
call_of gap = call.gap
call_of session_end = call.session_end

-- the memory that a call by value leaves, which is that of every outcome
unfoldable pub left : List ℕ → Call → List ℕ
left m x = stored (number_of (after (decoded m) x).answer) (after (decoded m) x).tool m

abbrev pub memory_of : List ℕ → Export → List ℕ
memory_of m (request q lent) = (request_outcome q m lent).memory
memory_of m (octet o lent) = (octet_outcome o m lent).memory
memory_of m gap = (event_outcome call.gap m).memory
memory_of m session_end = (event_outcome call.session_end m).memory

-- the wake-up that a cell tells of
abbrev pub wake_in : ℕ → Wake
wake_in cell = cond (eqb cell 1) Agn None

-- what a host reads off a call's results: the number, and the cells where there is none
abbrev pub read : ℕ → ℕ → ℕ → Report
read number wake ended =
    record { number = number; wake = cond (eqb number none) (wake_in wake) None; done = eqb number none && eqb ended 1 }

-- an octet has no cell for a wake-up, a gap and a session end have no cell at all
abbrev pub report_in : List ℕ → Export → Report
report_in m (request q lent) =
    let o = request_outcome q m lent in
    read o.number o.loan.wake o.loan.ended
report_in m (octet o lent) =
    let r = octet_outcome o m lent in
    read r.number 0 r.loan.ended
report_in m gap = read (event_outcome call.gap m).number 0 0
report_in m session_end = read (event_outcome call.session_end m).number 0 0

-- the memory that calls leave, each given the memory that the last one left
unfoldable pub left_in : List ℕ → List Export → List ℕ
left_in m [] = m
left_in m (x ∷ xs) = left_in (memory_of m x) xs

-- the log after calls
unfoldable pub log_in : List ℕ → List Export → Log → Log
log_in m [] l = l
log_in m (x ∷ xs) l = log_in (memory_of m x) xs (logged (call_of x) (report_in m x) l)
