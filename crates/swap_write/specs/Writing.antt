-- What the writer answers and leaves in the buffer (01, Swap file): the reader's verdict on the would-be file, then 17.
use Rattle.std.specs.Prelude.{Option, None, Some, Result, Ok, Err, ℕ, ◌+◌, cond, List, leb, ltb, length}
use Rattle.numbers.specs.declared.Octets.{Octets}
use Rattle.numbers.specs.Counts.{in_octets}
use Rattle.numbers.specs.Answer.{Answer, given, refused, refused_at}
use Rattle.octets.specs.Splice.{fronted}
use Rattle.numbers.specs.Table.{faulty_file, wrong_length}
use Rattle.swap.specs.declared.file.RecordCount.{RecordCount}
use Rattle.swap.specs.Record.{file_limit}
use Rattle.swap.specs.Reading.{verdict_of}
use Rattle.swap_write.specs.declared.Refusal.{Refusal}
use Rattle.swap_write.specs.declared.Refusal.TheVariants.{Fault, Short}
use Rattle.swap_write.specs.Heads.{file_of}

-- the number and values of each case: the length of the file written, 18 with an offset, or 17
abbrev pub answer_of_written : Result Octets Refusal → Answer Octets
answer_of_written (Ok length) = given length
answer_of_written (Err (Fault fault)) = refused_at faulty_file fault.0
answer_of_written (Err Short) = refused wrong_length

-- the answer, and the buffer after the call
pub record Outcome : Type 0 where
  pub answer : Answer Octets
  pub buffer : List ℕ

-- a file that the reader accepts goes to the front of the buffer, where it fits
unfoldable pub laid : List ℕ → List ℕ → Outcome
laid file buffer =
    cond (leb (length file) (length buffer))
    (record { answer = given (in_octets (length file)); buffer = fronted file buffer })
    (record { answer = refused wrong_length; buffer = buffer })

-- 01, Swap file: 18 and the reader's offset, "then a buffer too short for the file with 17; both leave the buffer"
unfoldable pub judged_writing : Answer RecordCount → List ℕ → List ℕ → Outcome
judged_writing (given count) file buffer = laid file buffer
judged_writing (refused n) file buffer = record { answer = refused n; buffer = buffer }
judged_writing (refused_at n offset) file buffer = record { answer = refused_at n offset; buffer = buffer }

unfoldable pub writing : List ℕ → List ℕ → List ℕ → Outcome
writing heads contents buffer = judged_writing (verdict_of (file_of heads contents)) (file_of heads contents) buffer

-- the length of a file, if it is within the limit
unfoldable pub size_of : List ℕ → Option Octets
size_of file = cond (ltb file_limit (length file)) None (Some (in_octets (length file)))

-- so many octets and more
unfoldable pub size_after : ℕ → ℕ → Option Octets
size_after sum more = cond (ltb file_limit (sum + more)) None (Some (in_octets (sum + more)))
