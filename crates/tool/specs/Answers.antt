-- What an answer says: 01's number, or how far the request has come (01, Numbers handed back).
use Rattle.std.specs.Prelude.{ℕ, Bool, true, false, Result, Ok, Err}
use Rattle.numbers.specs.Table.{wrong_address, too_long, broken_rule, wrong_cipher, wrong_echo, session_ended, busy, wrong_length, unexpected_frame, rejected, weak_key}
use Rattle.numbers.specs.Answer.{Answer, given, refused, refused_at}
use Rattle.frame.specs.Checks.{fault_number}
use Rattle.tool.specs.declared.Refusal.{Refusal}
use Rattle.tool.specs.declared.Refusal.TheVariants.{BadFrame, WrongAddress, TooLong, BrokenRule, WrongCipher, WrongEcho, SessionEnded, Busy, WrongLength, Unexpected, Rejected, WeakKey}
use Rattle.tool.specs.declared.Progress as code
use Rattle.tool.specs.declared.Progress.TheVariants as variant

abbrev pub refusal_number : Refusal → ℕ
refusal_number (BadFrame fault) = fault_number fault
refusal_number WrongAddress = wrong_address
refusal_number TooLong = too_long
refusal_number BrokenRule = broken_rule
refusal_number WrongCipher = wrong_cipher
refusal_number WrongEcho = wrong_echo
refusal_number SessionEnded = session_ended
refusal_number Busy = busy
refusal_number WrongLength = wrong_length
refusal_number Unexpected = unexpected_frame
refusal_number Rejected = rejected
refusal_number WeakKey = weak_key

-- Without a number: nothing is to be done; a frame is to be sent, and a reply is awaited; the request has ended.
pub data Progress : Type 0 where
  nothing : Progress
  sent : Progress
  done : Progress

abbrev pub answer_of : Result code.Progress Refusal → Answer Progress
answer_of (Ok variant.Nothing) = given nothing
answer_of (Ok variant.Sent) = given sent
answer_of (Ok variant.Done) = given done
answer_of (Err refusal) = refused (refusal_number refusal)

-- the request has ended without a number
abbrev pub is_done : Answer Progress → Bool
is_done (given nothing) = false
is_done (given sent) = false
is_done (given done) = true
is_done (refused n) = false
is_done (refused_at n offset) = false
