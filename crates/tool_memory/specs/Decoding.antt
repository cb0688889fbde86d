-- The tool that a memory holds, and when a memory is refused with 12.
use Rattle.std.specs.Prelude.{ℕ, Bool, cond, not, ◌&&◌, ◌||◌, List, eqb, leb, get_or, replicate}
use Rattle.octets.specs.Part.{part_of}
use Rattle.receiver.specs.Receiver as receiver
use Rattle.receiver_memory.specs.Fields.{field_at}
use Rattle.receiver_memory.specs.Receiver as receiver_memory
use Rattle.wake.specs.declared.WakeUps.{WakeUps}
use Rattle.tool.specs.declared.Tool.{Tool}
use Rattle.frame.specs.Sizes.{address_width, number_width, most_programmed, most_transferred}
use Rattle.tool_memory.specs.Layout.{mark_at, tab_at, length_at, ads_at, adp_at, key_at, na1_at, sent_at, station_at, successes_at, receiver_at, receiver_mark_at, size}
use Rattle.tool_memory.specs.Marks.{programming_mark, last_mark, unused, phase_of}

-- the memory of a fresh tool: zeros
unfoldable pub fresh_memory : List ℕ
fresh_memory = replicate size 0

-- the state marks in use: those of `Marks` for the request, 0 and 1 for the receiver
unfoldable pub marks_in_use : List ℕ → Bool
marks_in_use m = leb (get_or m mark_at 0) last_mark && leb (get_or m receiver_mark_at 0) 1

unfoldable pub waking_in : List ℕ → WakeUps
waking_in m = record { station = field_at address_width m station_at; successes = record { 0 = get_or m successes_at 0 } }

-- The tool that a memory holds. With "a state mark not in use", which 01 refuses with 12, it is a tool that every call refuses with 12.
unfoldable pub decoded : List ℕ → Tool
decoded m =
    record {
      phase = cond (marks_in_use m) (phase_of (get_or m mark_at 0) (get_or m tab_at 0) (get_or m length_at 0)) unused;
      ads = field_at address_width m ads_at;
      adp = get_or m adp_at 0;
      key = field_at number_width m key_at;
      na1 = field_at number_width m na1_at;
      sent = field_at most_transferred m sent_at;
      waking = waking_in m;
      receiver = receiver_memory.decoded (part_of m receiver_at size);
    }

-- 01, The card: refused with 12 is a tool that "holds a length over its limit or a state mark not in use ..; so is a partly received frame whose N
-- answer 1 would refuse, or with as many octets as its N states or more". Only a programming request has a length.
unfoldable pub sound_memory : List ℕ → Bool
sound_memory m =
    marks_in_use m
    && ((not (eqb (get_or m mark_at 0) programming_mark) || leb (get_or m length_at 0) most_programmed)
    && receiver.sound (receiver_memory.decoded (part_of m receiver_at size)))
