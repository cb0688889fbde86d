-- 01's number and values of every case of an answer (01, Numbers handed back).
use Rattle.std.specs.Prelude.{ℕ, Result, Ok, Err}
use Rattle.numbers.specs.Table.{none, too_long, ill_formed, too_many_characters, no_record, not_open}
use Rattle.numbers.specs.Answer as number
use Rattle.numbers.specs.declared.Characters.{Characters}
use Rattle.records.specs.declared.Refusal.TheVariants.{TooLong, IllFormed, TooManyCharacters, NoRecord, NotOpen}
use Rattle.records.specs.declared.Refusal.{Refusal}

abbrev pub refusal_number : Refusal → ℕ
refusal_number TooLong = too_long
refusal_number IllFormed = ill_formed
refusal_number TooManyCharacters = too_many_characters
refusal_number NoRecord = no_record
refusal_number NotOpen = not_open

-- a write, or the contents given at setup
abbrev pub answer_number : Result (Unit {0}) Refusal → ℕ
answer_number (Ok done) = none
answer_number (Err refusal) = refusal_number refusal

-- 01, Numbers handed back: what is given, or the refusal's number
abbrev pub answer_of : {Values : Type 0} → Result Values Refusal → number.Answer Values
answer_of (Ok values) = number.given values
answer_of (Err refusal) = number.refused (refusal_number refusal)

-- the data's character count
abbrev pub answer_of_judged : Result Characters Refusal → number.Answer Characters
answer_of_judged = answer_of

-- the record's index
abbrev pub answer_of_found : Result ℕ Refusal → number.Answer ℕ
answer_of_found = answer_of
