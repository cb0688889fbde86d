-- A receiver by value: which reception it holds, when it is refused, and what each event gives and leaves.
use Rattle.std.specs.Prelude.{ℕ, ◌≤◌, ◌<◌, ◌≡◌, List, [], ◌∷◌, ◌++◌, Bool, true, false, cond, ◌||◌, length, get_or, take, replicate, eqb, ltb}
use Rattle.std.proofs.Math.Option.{Option, none, some}
use Rattle.octets.specs.Splice.{fronted}
use Rattle.numbers.specs.Table.{broken_rule}
use Rattle.numbers.specs.Answer.{Answer, given, refused, refused_at}
use Rattle.numbers.specs.declared.Octets.{Octets}
use Rattle.frame.specs.declared.codes.Command.{Command}
use Rattle.frame.specs.Sizes.{shortest_frame, longest_frame}
use Rattle.frame.specs.Checks.{fault_number, stated_by}
use Rattle.receiver.specs.declared.Receiver.{Receiver}
use Rattle.receiver.specs.declared.Event.{Event}
use Rattle.receiver.specs.declared.Event.TheVariants as event
use Rattle.receiver.specs.declared.Received.{Received}
use Rattle.receiver.specs.Receiving.{Reception, awaiting, skipping, partial, Outcome, silent_outcome, dropped_outcome, complete_outcome, Step, on_octet, on_gap, on_session_end}

-- What an event answers: a number, or the command of a good frame, or neither.
abbrev pub answer_of_event : Event → Answer (Option Command)
answer_of_event event.Nothing = given none
answer_of_event (event.Bad f) = refused (fault_number f)
answer_of_event (event.Good c) = given (some c)
answer_of_event event.Refused = refused broken_rule

-- What an event gives and leaves: the next receiver, the answer, and the octets of a good frame.
pub record Response : Type 0 where
  pub receiver : Receiver
  pub answer : Answer (Option Command)
  pub frame : List ℕ

abbrev pub answer_of_received : Received → Response
answer_of_received r = record { receiver = r.receiver; answer = answer_of_event r.event; frame = r.frame }

-- A partly received frame has fewer octets than its N states, so one less than the longest frame at most.
abbrev pub most_held : ℕ
most_held = 127

-- 01, The card: "Fresh, as setup leaves a card: receiver empty".
abbrev pub fresh : Receiver
fresh = record { skipping = false; count = record { 0 = 0 }; octets = replicate most_held 0 }

-- the first octet held
abbrev pub stated_n : Receiver → ℕ
stated_n r = get_or r.octets 0 0

-- fewer octets than N states, and an N that answer 1 would not refuse
abbrev pub fewer : ℕ → Answer Octets → Bool
fewer n (given whole) = ltb n whole.0
fewer n (refused number) = false
fewer n (refused_at number offset) = false

-- 01, The card: refused with 12 is "a partly received frame whose N answer 1 would refuse, or with as many octets as its N states or more".
unfoldable pub sound : Receiver → Bool
sound r = r.skipping || (eqb r.count.0 0 || fewer r.count.0 (stated_by (stated_n r)))

-- The same rule in numbers: n octets of a frame whose N is k have come, and neither reason of 12 applies.
pub record Unfinished (n k : ℕ) : Type 0 where
  pub least : shortest_frame ≤ k
  pub most : k ≤ longest_frame
  pub short : n < k

-- A frame is partly received where octets are held and none is skipped. Nothing else is a reason for 12.
pub record Sound (r : Receiver) : Type 0 where
  pub partly : r.skipping ≡ false → 0 < r.count.0 → Unfinished r.count.0 (stated_n r)

-- The reception that a receiver holds.
unfoldable pub reception_of : Receiver → Reception
reception_of r =
    cond r.skipping skipping (cond (eqb r.count.0 0) awaiting (partial (take r.count.0 r.octets)))

-- The octets held, with one more.
abbrev pub held_with : Receiver → ℕ → List ℕ
held_with r o = take r.count.0 r.octets ++ (o ∷ [])

-- The receiver with another reception. The octets at and past the count are free, and stay as they were; so does the count of a receiver that skips.
unfoldable pub holding : Reception → Receiver → Receiver
holding awaiting r = record { skipping = false; count = record { 0 = 0 }; octets = r.octets }
holding skipping r = record { skipping = true; count = r.count; octets = r.octets }
holding (partial s) r = record { skipping = false; count = record { 0 = length s }; octets = fronted s r.octets }

unfoldable pub answer_to : Outcome → Answer (Option Command)
answer_to silent_outcome = given none
answer_to (dropped_outcome number) = refused number
answer_to (complete_outcome c s) = given (some c)

abbrev pub no_frame : List ℕ
no_frame = replicate longest_frame 0

-- The octets of a good frame with zeros after them, and zeros alone where there is none.
unfoldable pub frame_of : Outcome → List ℕ
frame_of silent_outcome = no_frame
frame_of (dropped_outcome number) = no_frame
frame_of (complete_outcome c s) = fronted s no_frame

abbrev pub stepped : Receiver → Step → Response
stepped r s = record { receiver = holding s.next r; answer = answer_to s.outcome; frame = frame_of s.outcome }

abbrev pub broken : Receiver → Response
broken r = record { receiver = r; answer = refused broken_rule; frame = no_frame }

-- What an event gives and leaves: 12 first, with the receiver handed back as it was; else as 01, Receiving, says.
abbrev pub answered_by : (Reception → Step) → Receiver → Response
answered_by f r = cond (sound r) (stepped r (f (reception_of r))) (broken r)

unfoldable pub after_octet : Receiver → ℕ → Response
after_octet r o = answered_by (on_octet o) r

unfoldable pub after_gap : Receiver → Response
after_gap r = answered_by on_gap r

unfoldable pub after_session_end : Receiver → Response
after_session_end r = answered_by on_session_end r

-- The answers to octets given one after the other, each to the receiver that the last call gave back, and the receiver that is left.
unfoldable pub after_octets : Receiver → List ℕ → List Response
after_octets r [] = []
after_octets r (o ∷ s) = after_octet r o ∷ after_octets (after_octet r o).receiver s

unfoldable pub left_by : Receiver → List ℕ → Receiver
left_by r [] = r
left_by r (o ∷ s) = left_by (after_octet r o).receiver s
