-- Document 01's number and the values that each answer here stands for.
use Rattle.std.specs.Prelude.{ℕ, Option, Some, None, Result, Ok, Err}
use Rattle.numbers.specs.declared.Octets.{Octets}
use Rattle.numbers.specs.Answer.{Answer, given, refused, refused_at}
use Rattle.numbers.specs.Table.{wrong_length, faulty_file}
use Rattle.number.specs.declared.Number.{Number}
use Rattle.number.specs.declared.Short.{Short}

-- a number with the offset after it; 01, Swap file: a bad count or length is 18 at its start
abbrev pub answer_of_reading : Octets → Option Number → Answer (ℕ × Octets)
answer_of_reading at (Some number) = given (number.value, number.next)
answer_of_reading at None = refused_at faulty_file at

-- the offset after the number, or 17
abbrev pub answer_of_written : Result Octets Short → Answer Octets
answer_of_written (Ok next) = given next
answer_of_written (Err short) = refused wrong_length
