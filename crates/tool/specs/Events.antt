-- What each call on a tool gives and leaves.
use Rattle.std.specs.Prelude.{ℕ, cond, leb}
use Rattle.numbers.specs.Table.{broken_rule, session_ended, wrong_length}
use Rattle.frame.specs.Content.{fields_of, data_of}
use Rattle.receiver.specs.Receiving.{Outcome, silent_outcome, dropped_outcome, complete_outcome, Step, on_octet, on_gap, on_session_end}
use Rattle.receiver.specs.Receiver.{reception_of, holding}
use Rattle.tool.specs.declared.Tool.{Tool}
use Rattle.frame.specs.Sizes.{longest_frame}
use Rattle.tool.specs.Parts.{idle, with_receiver, Response, silent, refusing, over}
use Rattle.tool.specs.Soundness.{sound}
use Rattle.tool.specs.Requests.{Asking, after_asking}
use Rattle.tool.specs.Replies.{on_frame}

-- the tool after a step of its receiver
abbrev pub after_step : Step → Tool → Tool
after_step s t = with_receiver (holding s.next t.receiver) t

-- Receiving: nothing; a bad frame, which is dropped with its number (1 to 5), "and the wait goes on"; or a good frame
unfoldable pub heard_as : Outcome → Tool → Response
heard_as silent_outcome t = silent t
heard_as (dropped_outcome number) t = refusing t number
heard_as (complete_outcome c s) t = on_frame t c (fields_of c s) (data_of c s)

abbrev pub heard_step : Step → Tool → Response
heard_step s t = heard_as s.outcome (after_step s t)

-- 17 is tested first, a frame buffer under 128 octets; then 12. "An event refused with 17 or 12 has not happened."
unfoldable pub after_octet : Tool → ℕ → ℕ → Response
after_octet t o buffer_length =
    cond (leb longest_frame buffer_length)
    (cond (sound t) (heard_step (on_octet o (reception_of t.receiver)) t) (refusing t broken_rule))
    (refusing t wrong_length)

-- a gap drops a partly received frame (3), and completes none
unfoldable pub after_gap : Tool → Response
after_gap t = cond (sound t) (heard_step (on_gap (reception_of t.receiver)) t) (refusing t broken_rule)

-- "A session end empties the receiver and, while waiting, ends with 15"
abbrev pub session_over : Tool → Response
session_over t = cond (idle t.phase) (silent t) (over t session_ended)

unfoldable pub after_session_end : Tool → Response
after_session_end t = cond (sound t) (session_over (after_step (on_session_end (reception_of t.receiver)) t)) (refusing t broken_rule)

-- a call on a tool with its arguments; of the frame buffer only the length bears on what the tool does
pub data Call : Type 0 where
  ask : Asking → ℕ → Call
  octet_call : ℕ → ℕ → Call
  gap : Call
  session_end : Call

unfoldable pub after : Tool → Call → Response
after t (ask q buffer_length) = after_asking t q buffer_length
after t (octet_call o buffer_length) = after_octet t o buffer_length
after t gap = after_gap t
after t session_end = after_session_end t
