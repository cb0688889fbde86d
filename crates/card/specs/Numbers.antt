-- 01's number of every case of an answer (01, Numbers handed back).
use Rattle.std.specs.Prelude.{ℕ, Result, Ok, Err}
use Rattle.numbers.specs.Table.{none, wrong_address, broken_rule, wrong_cipher, wrong_length, weak_key}
use Rattle.frame.specs.Checks.{fault_number}
use Rattle.records.specs.Numbers as records
use Rattle.card.specs.declared.Refusal.{Refusal}
use Rattle.card.specs.declared.Refusal.TheVariants.{BadFrame, BroadcastAddress, Write, BrokenRule, WrongCipher, WrongLength, WeakKey}

-- 01, Numbers handed back: the number of each refusal
abbrev pub refusal_number : Refusal → ℕ
refusal_number (BadFrame fault) = fault_number fault
refusal_number BroadcastAddress = wrong_address
refusal_number (Write refusal) = records.refusal_number refusal
refusal_number BrokenRule = broken_rule
refusal_number WrongCipher = wrong_cipher
refusal_number WrongLength = wrong_length
refusal_number WeakKey = weak_key

-- 01, Numbers handed back: what a call tells the host: nothing, or why it is refused
abbrev pub Answer : Type 0
Answer = Result (Unit {0}) Refusal

abbrev pub answer_number : Answer → ℕ
answer_number (Ok done) = none
answer_number (Err refusal) = refusal_number refusal
