-- 01, Numbers handed back: every refusal has a number.
use mathlib.Core.Path.{◌≡◌}
use Rattle.numbers.specs.Table.{none}
use Rattle.octets.proofs.Impossible.{impossible}
use Rattle.frame.specs.declared.checks.Fault.TheVariants.{OutOfRange, Crc, Cut, Unknown, Length}
use Rattle.tool.specs.declared.Refusal.{Refusal}
use Rattle.tool.specs.declared.Refusal.TheVariants.{BadFrame, WrongAddress, TooLong, BrokenRule, WrongCipher, WrongEcho, SessionEnded, Busy, WrongLength, Unexpected, Rejected, WeakKey}
use Rattle.tool.specs.Answers.{refusal_number}

pub refusal_is_number : (r : Refusal) → refusal_number r ≡ none → ⊥
refusal_is_number (BadFrame OutOfRange) e = impossible (cc)
refusal_is_number (BadFrame Crc) e = impossible (cc)
refusal_is_number (BadFrame Cut) e = impossible (cc)
refusal_is_number (BadFrame Unknown) e = impossible (cc)
refusal_is_number (BadFrame Length) e = impossible (cc)
refusal_is_number WrongAddress e = impossible (cc)
refusal_is_number TooLong e = impossible (cc)
refusal_is_number BrokenRule e = impossible (cc)
refusal_is_number WrongCipher e = impossible (cc)
refusal_is_number WrongEcho e = impossible (cc)
refusal_is_number SessionEnded e = impossible (cc)
refusal_is_number Busy e = impossible (cc)
refusal_is_number WrongLength e = impossible (cc)
refusal_is_number Unexpected e = impossible (cc)
refusal_is_number Rejected e = impossible (cc)
refusal_is_number WeakKey e = impossible (cc)
