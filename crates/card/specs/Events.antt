-- What each call on a card gives and leaves: an octet, a gap, a session end, a meter write (01, The card).
use Rattle.std.specs.Prelude.{ℕ, cond, List}
use Rattle.numbers.specs.Table.{none, broken_rule, wrong_length}
use Rattle.frame.specs.Content.{fields_of, data_of}
use Rattle.receiver.specs.Receiving.{awaiting, Outcome, silent_outcome, dropped_outcome, complete_outcome, Step, on_octet, on_gap}
use Rattle.receiver.specs.Receiver.{reception_of, holding}
use Rattle.records.specs.declared.Cause.TheVariants.{Meter}
use Rattle.card.specs.declared.Card.{Card}
use Rattle.card.specs.Loan.{Loan, usable}
use Rattle.card.specs.Parts.{with_receiver, without_wait, Response, telling, silent}
use Rattle.card.specs.Soundness.{sound}
use Rattle.card.specs.Frames.{written, on_frame}

-- what the host is told of a receiver's outcome: a bad frame's number (1 to 5), and nothing of a good frame
abbrev pub outcome_number : Outcome → ℕ
outcome_number silent_outcome = none
outcome_number (dropped_outcome number) = number
outcome_number (complete_outcome command s) = none

-- the card after a step of its receiver
abbrev pub after_step : Step → Card → Card
after_step s c = with_receiver (holding s.next c.receiver) c

-- "Octet, gap: by Receiving": nothing; a bad frame, which is dropped with its number; or a good frame
unfoldable pub heard_as : Outcome → Card → Loan → Response
heard_as silent_outcome c loan = silent c
heard_as (dropped_outcome number) c loan = telling c number
heard_as (complete_outcome command s) c loan = on_frame c loan command (fields_of command s) (data_of command s)

abbrev pub heard_step : Step → Card → Loan → Response
heard_step s c loan = heard_as s.outcome (after_step s c) loan

unfoldable pub heard : Card → ℕ → Loan → Response
heard c o loan = heard_step (on_octet o (reception_of c.receiver)) c loan

-- 17 is tested first, then 12. "An event refused with 17 or 12 has not happened."
unfoldable pub after_octet : Card → ℕ → Loan → Response
after_octet c o loan = cond (usable loan) (cond (sound c) (heard c o loan) (telling c broken_rule)) (telling c wrong_length)

abbrev pub gap_step : Step → Card → Response
gap_step s c = telling (after_step s c) (outcome_number s.outcome)

unfoldable pub after_gap : Card → Response
after_gap c = cond (sound c) (gap_step (on_gap (reception_of c.receiver)) c) (telling c broken_rule)

-- "A session end ends it too and empties the receiver, which then awaits an N."
unfoldable pub after_session_end : Card → Response
after_session_end c = cond (sound c) (silent (without_wait (with_receiver (holding awaiting c.receiver) c))) (telling c broken_rule)

-- "A meter write tests 10 and then the data." "A meter write doesn't" end the wait.
unfoldable pub after_meter_write : Card → ℕ → List ℕ → Response
after_meter_write c t d = cond (sound c) (written c Meter t d) (telling c broken_rule)

-- a call on a card with its arguments
pub data Call : Type 0 where
  octet_call : ℕ → Loan → Call
  gap : Call
  session_end : Call
  meter_write : ℕ → List ℕ → Call

unfoldable pub after : Card → Call → Response
after c (octet_call o loan) = after_octet c o loan
after c gap = after_gap c
after c session_end = after_session_end c
after c (meter_write t d) = after_meter_write c t d
