-- The checks of a whole frame, in the order of 01, Receiving, and the number and values of 01 that each answer stands for.
use Rattle.std.specs.Prelude.{ℕ, List, [], ◌∷◌, Option, Some, None, Result, Ok, Err, cond, length, get_or, replicate, eqb}
use Rattle.octets.specs.Between.{between}
use Rattle.crc.specs.AnnexE.{divides}
use Rattle.numbers.specs.Table.{length_out_of_range, wrong_check_key, cut_frame, unknown_command, impossible_length}
use Rattle.numbers.specs.Counts.{in_octets}
use Rattle.numbers.specs.Answer.{Answer, given, refused, refused_at, when_given}
use Rattle.numbers.specs.declared.Octets.{Octets}
use Rattle.frame.specs.declared.codes.Command.{Command}
use Rattle.frame.specs.declared.checks.Fault.{Fault}
use Rattle.frame.specs.declared.checks.Fault.TheVariants.{OutOfRange, Crc, Cut, Unknown, Length}
use Rattle.frame.specs.declared.content.Fields.{Fields}
use Rattle.frame.specs.declared.content.Reading.{Reading}
use Rattle.frame.specs.Sizes.{shortest_frame, longest_frame, com_at, address_width, number_width}
use Rattle.frame.specs.Codes.{command_of}
use Rattle.frame.specs.Layout.{layout_of, can_have}
use Rattle.frame.specs.Content.{fields_of}

-- 01, Numbers handed back
abbrev pub fault_number : Fault → ℕ
fault_number OutOfRange = length_out_of_range
fault_number Crc = wrong_check_key
fault_number Cut = cut_frame
fault_number Unknown = unknown_command
fault_number Length = impossible_length

abbrev pub answer_of_stated : Option Octets → Answer Octets
answer_of_stated (Some n) = given n
answer_of_stated None = refused length_out_of_range

abbrev pub answer_of_verdict : Result Command Fault → Answer Command
answer_of_verdict (Ok c) = given c
answer_of_verdict (Err f) = refused (fault_number f)

-- 01, Receiving: "If the whole length it states is under 11 or over 128, answer 1."
unfoldable pub stated_by : ℕ → Answer Octets
stated_by n = cond (between shortest_frame longest_frame n) (given (in_octets n)) (refused length_out_of_range)

-- "length that this command can have (5)"
unfoldable pub judged_as : List ℕ → Command → Answer Command
judged_as s c = cond (can_have (layout_of c) (length s)) (given c) (refused impossible_length)

-- "When the whole length has come, checks run in this order: CRC (2), known command (4), length that this command can have (5)."
unfoldable pub judged : List ℕ → Answer Command
judged s = cond (divides s) (when_given (command_of (get_or s com_at 0)) (judged_as s)) (refused wrong_check_key)

-- a slice is cut where it is not as long as its N says
unfoldable pub inspected_as : List ℕ → Octets → Answer Command
inspected_as s whole = cond (eqb (length s) whole.0) (judged s) (refused cut_frame)

-- a whole frame in a slice: 1, then 3, then the checks of a frame whose whole length has come; an empty slice, which has no N, is cut
unfoldable pub inspected : List ℕ → Answer Command
inspected [] = refused cut_frame
inspected (n ∷ s) = when_given (stated_by n) (inspected_as (n ∷ s))

-- what is told of a frame that is refused
abbrev pub no_fields : Fields
no_fields =
    record { ads = replicate address_width 0; adp = 0; za1 = replicate number_width 0; za2 = replicate number_width 0; tab = 0; announced = replicate address_width 0 }

unfoldable pub fields_in : Answer Command → List ℕ → Fields
fields_in (given c) s = fields_of c s
fields_in (refused n) s = no_fields
fields_in (refused_at n at) s = no_fields

-- what reading a slice gives: what it is as a whole frame, and its fields
pub record FrameRead : Type 0 where
  pub verdict : Answer Command
  pub fields : Fields

abbrev pub answer_of_reading : Result Reading Fault → FrameRead
answer_of_reading (Ok r) = record { verdict = given r.command; fields = r.fields }
answer_of_reading (Err f) = record { verdict = refused (fault_number f); fields = no_fields }

-- a whole frame in a slice with its fields
unfoldable pub read_of : List ℕ → FrameRead
read_of s = record { verdict = inspected s; fields = fields_in (inspected s) s }
