-- What a C program gets of a call on tool memory: 01's number, and every lent octet and cell afterwards.
use Rattle.std.specs.Prelude.{ℕ, cond, List, eqb, length}
use Rattle.octets.specs.Splice.{spliced, fronted}
use Rattle.numbers.specs.Answer.{Answer, number_of}
use Rattle.numbers.specs.Table.{none}
use Rattle.wake.specs.declared.Wake.{Wake}
use Rattle.wake.specs.declared.Wake.TheVariants.{None, Agn}
use Rattle.tool.specs.declared.Tool.{Tool}
use Rattle.tool.specs.Answers.{Progress, is_done}
use Rattle.tool.specs.Parts.{Response, Told, told}
use Rattle.tool.specs.Requests.{Asking}
use Rattle.tool.specs.Events.{Call, ask, octet_call, after}
use Rattle.tool.specs.Leaving.{unmade}
use Rattle.tool_memory.specs.Decoding.{decoded}
use Rattle.tool_memory.specs.Encoding.{encoded}

-- "An event refused with 17 or 12 has not happened": the memory stays as it is, whatever it holds. Else it holds the tool that the call gives back.
unfoldable pub stored : ℕ → Tool → List ℕ → List ℕ
stored number t m = cond (unmade number) m (encoded t m)

-- a cell takes a value where the call gives no number, and stays as it was where it gives one
unfoldable pub cell_after : ℕ → ℕ → ℕ → ℕ
cell_after number value before = cond (eqb number none) value before

-- octets that are lent for DATA: DATA over their front where the call gives no number
unfoldable pub shown_over : ℕ → List ℕ → List ℕ → List ℕ
shown_over number d before = cond (eqb number none) (spliced before 0 d) before

-- 1 where an AGN wake-up goes before the frame
abbrev pub wake_mark : Wake → ℕ
wake_mark None = 0
wake_mark Agn = 1

-- 1 where the request has ended without a number
abbrev pub done_mark : Answer Progress → ℕ
done_mark a = cond (is_done a) 1 0

-- what is lent for a request besides the memory: the frame buffer, and cells for its frame's length, for the wake-up and for the request's end
pub record RequestLoan : Type 0 where
  pub frame : List ℕ
  pub length : ℕ
  pub wake : ℕ
  pub ended : ℕ

pub record RequestOutcome : Type 0 where
  pub number : ℕ
  pub memory : List ℕ
  pub loan : RequestLoan

-- A response of the tool as a request shows it: the request's frame over the front of the lent buffer, with its length.
unfoldable pub request_shown : Response → List ℕ → RequestLoan → RequestOutcome
request_shown r m lent =
    let n = number_of r.answer in
    record {
      number = n;
      memory = stored n r.tool m;
      loan =
          record {
            frame = fronted r.frame lent.frame;
            length = cell_after n (length r.frame) lent.length;
            wake = cell_after n (wake_mark r.wake) lent.wake;
            ended = cell_after n (done_mark r.answer) lent.ended;
          };
    }

-- the same for an octet: the frame is AUT, and the content is the DATA of a reading that has ended well, with their count
pub record OctetLoan : Type 0 where
  pub frame : List ℕ
  pub length : ℕ
  pub ended : ℕ
  pub content : List ℕ
  pub count : ℕ

pub record OctetOutcome : Type 0 where
  pub number : ℕ
  pub memory : List ℕ
  pub loan : OctetLoan

unfoldable pub octet_shown : Response → List ℕ → OctetLoan → OctetOutcome
octet_shown r m lent =
    let n = number_of r.answer in
    record {
      number = n;
      memory = stored n r.tool m;
      loan =
          record {
            frame = fronted r.frame lent.frame;
            length = cell_after n (length r.frame) lent.length;
            ended = cell_after n (done_mark r.answer) lent.ended;
            content = shown_over n r.contents lent.content;
            count = cell_after n (length r.contents) lent.count;
          };
    }

-- nothing is lent for a gap or a session end besides the memory
pub record EventOutcome : Type 0 where
  pub number : ℕ
  pub memory : List ℕ

abbrev pub event_shown : Told → List ℕ → EventOutcome
event_shown a m = record { number = number_of a.answer; memory = stored (number_of a.answer) a.tool m }

-- A call on the tool that a memory holds, whatever the memory's octets are.
unfoldable pub request_outcome : Asking → List ℕ → RequestLoan → RequestOutcome
request_outcome q m lent = request_shown (after (decoded m) (ask q (length lent.frame))) m lent

unfoldable pub octet_outcome : ℕ → List ℕ → OctetLoan → OctetOutcome
octet_outcome o m lent = octet_shown (after (decoded m) (octet_call o (length lent.frame))) m lent

unfoldable pub event_outcome : Call → List ℕ → EventOutcome
event_outcome call m = event_shown (told (after (decoded m) call)) m
